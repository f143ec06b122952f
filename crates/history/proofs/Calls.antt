-- Every call and frame keeps the order of the starts, so the box is what its history says. Assumes nothing.
use Rattle.std.specs.Prelude.{Err, None, Ok, Option, Result, Some}
use Prim.Native.Nat.{ℕ, zero, suc, ◌≤◌, ◌<◌}
use native.Mathlib.Omega.{arith}
use mathlib.Core.Path.{◌≡◌, refl, sym, ◌∙◌}
use mathlib.Core.Bool.{Bool, true, false, cond}
use mathlib.Core.List.{List, [], ◌∷◌, map}
use borrow.Author.Tests.{ltb-true, ltb-false, eqb-false}
use lib.Dec.{ltb, eqb}
use lib.ListN.{get_or, set, replicate, length-set}
use lib.Seq.{get_or-set_other, drop-set-lt}
use Rattle.allocate.specs.Allocation.{allocated_in}
use Rattle.allocate.proofs.Choice.{given_below}
use Rattle.bank.specs.Banks.{bank_of}
use Rattle.bank.specs.Search.{found_given}
use Rattle.bank.specs.declared.EffectEntry.{EffectEntry}
use Rattle.bank.specs.declared.SoundBank.{SoundBank}
use Rattle.config.specs.declared.AudioConfig.{AudioConfig}
use Rattle.entering.specs.Entering.{voice_free, kept_after, entered, entered_in}
use Rattle.entering.specs.declared.Lined.{Lined}
use Rattle.entering.proofs.Laws.{entered-none, entered-free, entered-busy}
use Rattle.envelope.specs.declared.AdsrSpec.{AdsrSpec}
use Rattle.error.specs.Told.{Told, told, value, refused}
use Rattle.frame.specs.Lasting.{Step, frame, call, after_all}
use Rattle.frame.proofs.Sized.{Sized}
use Rattle.laws.specs.Lists.{All}
use Rattle.laws.proofs.Bools.{never}
use Rattle.laws.proofs.Lists.{length-map_first, all_replicate}
use Rattle.marks.specs.Marks.{beside, nothing, rank_at, heard_of, heard_at, settled}
use Rattle.marks.specs.declared.Present.{Present}
use Rattle.marks.proofs.Laws as K
use Rattle.marks.proofs.Starts.{map-set}
use Rattle.mixer.specs.Mixers as M
use Rattle.mixer.specs.declared.Changed.{Changed}
use Rattle.mixer.specs.declared.Mixer.{Mixer}
use Rattle.mixer.specs.declared.VoiceStealingPolicy.{VoiceStealingPolicy}
use Rattle.play.specs.Fades as F
use Rattle.play.specs.Plays as P
use Rattle.play.proofs.Laws.{OnOrNot, turned, began, on-or-not}
use Rattle.polyblep.specs.declared.PolyBlepWaveform.{PolyBlepWaveform}
use Rattle.requests.specs.Presents.{left_by, played_present}
use Rattle.start.specs.Starts.{request_start_under, entry_start_under}
use Rattle.start.specs.declared.Request.{Request}
use Rattle.steps.specs.Steps as S
use Rattle.steps.specs.Steps.{Frame, mono, duty, stereo, play, tone, poly_blep, bank, pan, master_gain, stop, fade, look}
use Rattle.tone.specs.declared.Waveform.{Waveform}
use Rattle.voice.specs.Voices.{audible, with_pan, silent_voice, released_voice, stopped_voice}
use Rattle.voice.specs.declared.Voice.{Voice}
use Rattle.waiting.specs.Lines.{in_line}
use Rattle.waiting.specs.declared.Waiting.{Waiting}
use Rattle.waiting.proofs.Lists.{by-test}
use Rattle.sounder.specs.Calls.{opened, fade_marks, bank_marks}
use Rattle.sounder.specs.Steps.{frame_step, Lent, framed, Call, by01, fade_on, leave, withdraw, called01, called, box}
use Rattle.sounder.proofs.Heard.{HeardBy, toned-others, bleped-others, faded-heard, on-heard}
use Rattle.sounder.proofs.Settled.{silent, opened-silent, all-stopped}
use Rattle.sounder.proofs.Valid.{panned-alike}
use Rattle.history.specs.Histories.{History, unstarted, started_now, handed_now, faded_now, called_now01, called_now, entered_now, advanced_now, framed_now, history_of, ByHistory}
use Rattle.history.proofs.Kept.{Kept, Rest, by-history, settled-kept, mono-kept, duty-kept, stereo-kept, begun_kept, begun-by-kept, changed-kept, silent-kept}
use Rattle.error.specs.declared.AudioError.{AudioError}

-- ---- play
stored-others : (vs : List Voice) (i : ℕ) (v : Voice) (j : ℕ) → heard_at (map audible (set vs i v)) j ≡ true → (j ≡ i → ⊥) → heard_at (map audible vs) j ≡ true
stored-others vs i v j e n = sym (rw (map-set audible vs i v) (get_or-set_other (map audible vs) i j (audible v) false n)) ∙ e

stored-sized : (m : Mixer) (i : ℕ) (v : Voice) → Sized m → Sized (M.with_voices m (set m.voices i v))
stored-sized m i v s = record { few = s.few; full = length-set m.voices i v ∙ s.full; fade = s.fade }

stored-rest : (m : Mixer) (i : ℕ) (v : Voice) → i < m.n → Rest m → Rest (M.with_voices m (set m.voices i v))
stored-rest m i v l a = rw (drop-set-lt m.n m.voices i v l) a

played-kept : (p : Present) (h : History) (bytes : List ℕ) (r : Request) → Kept p h
    → let q = P.played_under true p bytes r in Kept (left_by true p q) (handed_now (told q.outcome) h)
unfolding P.played_under
played-kept p h bytes r k = by_both (allocated_in true p r.priority) refl (request_start_under true p.mixer.bank bytes r)
  where
    by_both : (a : Told ℕ) → allocated_in true p r.priority ≡ a → (s : Told Voice)
        → let q = P.played_at p.mixer (P.placed_by a s) in Kept (left_by true p q) (handed_now (told q.outcome) h)
    by_both (refused n) e s = k
    by_both (value i) e (refused n) = k
    by_both (value i) e (value v) =
        begun_kept p h i (M.with_voices p.mixer (set p.mixer.voices i v)) k (omega (arith, given_below true p r.priority i e, k.ready.sized.few))
        (stored-sized p.mixer i v k.ready.sized) (stored-rest p.mixer i v (given_below true p r.priority i e) k.rest) (stored-others p.mixer.voices i v)

-- ---- tone and PolyBLEP
first-sized : (m : Mixer) (v : Voice) → Sized m → Sized (P.first_sounding m v)
unfolding P.first_sounding
first-sized m v s = go (eqb m.n 0)
  where
    go : (t : Bool) → Sized (cond t m (M.with_voices m (set m.voices 0 v)))
    go true = s
    go false = stored-sized m 0 v s

first_rest : (m : Mixer) (v : Voice) → Rest m → Rest (P.first_sounding m v)
unfolding P.first_sounding
first_rest m v a = go (eqb m.n 0) refl
  where
    go : (t : Bool) → eqb m.n 0 ≡ t → Rest (cond t m (M.with_voices m (set m.voices 0 v)))
    go true e = a
    go false e = let n = eqb-false m.n 0 e in stored-rest m 0 v (some-there m.n n) a
      where
        some-there : (k : ℕ) → (k ≡ 0 → ⊥) → 0 < k
        some-there zero f = absurd (f refl)
        some-there (suc k) f = omega arith

toned-rest : (m : Mixer) (hz ms : ℕ) (w : Waveform) → Rest m → Rest (P.toned m hz ms w)
unfolding P.toned
toned-rest m hz ms w a = first_rest m _ a

bleped-rest : (m : Mixer) (hz ms : ℕ) (w : PolyBlepWaveform) → Rest m → Rest (P.poly_bleped m hz ms w)
unfolding P.poly_bleped
bleped-rest m hz ms w a = first_rest m _ a

toned-sized : (m : Mixer) (hz ms : ℕ) (w : Waveform) → Sized m → Sized (P.toned m hz ms w)
unfolding P.toned
toned-sized m hz ms w s = first-sized m _ s

bleped-sized : (m : Mixer) (hz ms : ℕ) (w : PolyBlepWaveform) → Sized m → Sized (P.poly_bleped m hz ms w)
unfolding P.poly_bleped
bleped-sized m hz ms w s = first-sized m _ s

-- ---- a fade
faded-sized : (m : Mixer) (bytes : List ℕ) (id ms : ℕ) (adsr : AdsrSpec) → Sized m → Sized (F.faded_under true m bytes id ms adsr).mixer
unfolding F.faded_under F.faded_by F.first_released F.begun
faded-sized m bytes id ms adsr s = by_count (ltb m.n 2) refl
  where
    by-start : 2 ≤ m.n → (t : Told Voice) → Sized (F.faded_by (F.first_released m) ms t).mixer
    by-start l (refused n) = record { few = s.few; full = simp length-set s.full; fade = s.fade }
    by-start l (value v) = record { few = s.few; full = simp length-set s.full; fade = λ e. l }

    by-entry : 2 ≤ m.n → (t : Told EffectEntry) → Sized (F.faded_to true m bytes ms adsr t).mixer
    by-entry l (refused n) = s
    by-entry l (value entry) = by-start l (entry_start_under true m.bank bytes entry adsr 128)

    by_count : (t : Bool) → ltb m.n 2 ≡ t → Sized (cond t (M.unchanged m 5) (F.faded_to true m bytes ms adsr (found_given m.bank bytes id))).mixer
    by_count true e = s
    by_count false e = by-entry (ltb-false m.n 2 e) (found_given m.bank bytes id)

faded-rest : (m : Mixer) (bytes : List ℕ) (id ms : ℕ) (adsr : AdsrSpec) → Rest m → Rest (F.faded_under true m bytes id ms adsr).mixer
unfolding F.faded_under F.faded_by F.first_released F.begun
faded-rest m bytes id ms adsr a = by_count (ltb m.n 2) refl
  where
    first : Voice
    first = released_voice (get_or m.voices 0 (silent_voice 0))

    by-start : 2 ≤ m.n → (t : Told Voice) → Rest (F.faded_by (F.first_released m) ms t).mixer
    by-start l (refused n) = rw (drop-set-lt m.n m.voices 0 first (omega arith)) a
    by-start l (value v) = rw (drop-set-lt m.n (set m.voices 0 first) 1 v (omega arith), drop-set-lt m.n m.voices 0 first (omega arith)) a

    by-entry : 2 ≤ m.n → (t : Told EffectEntry) → Rest (F.faded_to true m bytes ms adsr t).mixer
    by-entry l (refused n) = a
    by-entry l (value entry) = by-start l (entry_start_under true m.bank bytes entry adsr 128)

    by_count : (t : Bool) → ltb m.n 2 ≡ t → Rest (cond t (M.unchanged m 5) (F.faded_to true m bytes ms adsr (found_given m.bank bytes id))).mixer
    by_count true e = a
    by_count false e = by-entry (ltb-false m.n 2 e) (found_given m.bank bytes id)

-- the second call does what the first does, or nothing
on-sized : (m : Mixer) (bytes : List ℕ) (id ms : ℕ) (adsr : AdsrSpec) → Sized m → Sized (F.faded_on m bytes id ms adsr).mixer
on-sized m bytes id ms adsr s = by_call (on-or-not m bytes id ms adsr)
  where
    by_call : OnOrNot m (F.faded_under true m bytes id ms adsr) (F.faded_on m bytes id ms adsr) → Sized (F.faded_on m bytes id ms adsr).mixer
    by_call (turned n e o) = rw e s
    by_call (began d e) = rw e (faded-sized m bytes id ms adsr s)

on-rest : (m : Mixer) (bytes : List ℕ) (id ms : ℕ) (adsr : AdsrSpec) → Rest m → Rest (F.faded_on m bytes id ms adsr).mixer
on-rest m bytes id ms adsr a = by_call (on-or-not m bytes id ms adsr)
  where
    by_call : OnOrNot m (F.faded_under true m bytes id ms adsr) (F.faded_on m bytes id ms adsr) → Rest (F.faded_on m bytes id ms adsr).mixer
    by_call (turned n e o) = rw e a
    by_call (began d e) = rw e (faded-rest m bytes id ms adsr a)

faded-kept : (on : Bool) (p : Present) (h : History) (c : Changed) → Kept p h → Sized c.mixer → Rest c.mixer → HeardBy c.outcome p.mixer c.mixer
    → Kept (settled (beside c.mixer (fade_marks on c.outcome p.marks))) (faded_now on c.outcome h)
unfolding settled
faded-kept on p h c k s r a = by-outcome c.outcome a
  where
    by-outcome : (o : Result (Unit {0}) AudioError) → HeardBy o p.mixer c.mixer → Kept (settled (beside c.mixer (fade_marks on o p.marks))) (faded_now on o h)
    by-outcome (Ok tt) sub = begun-by-kept on _ (started_now 1 h) (begun_kept p h 1 c.mixer k (omega arith) s r sub)
    by-outcome (Err e) sub =
        settled-kept c.mixer p.marks h s k.ready.marked (K.fewer-order k.ready.order sub)
        (record {
          master = k.alike.master;
          on = k.alike.on;
          marks =
              record {
                long = k.alike.marks.long;
                rule = λ i g. k.alike.marks.rule i (sub i g);
                order = λ i j g f. k.alike.marks.order i j (sub i g) (sub j f);
              };
        })
        k.past r

-- ---- pan and master gain
panned-sized : (m : Mixer) (i q : ℕ) → Sized m → Sized (M.panned m i q)
unfolding M.panned M.voice_read
panned-sized m i q s = by_place (ltb i m.n)
  where
    v : Voice
    v = get_or m.voices i (silent_voice 0)

    by_place : (t : Bool) → Sized (M.panned_at m i q (cond t (Some v) None))
    by_place true = stored-sized m i (with_pan v q) s
    by_place false = s

panned-rest : (m : Mixer) (i q : ℕ) → Rest m → Rest (M.panned m i q)
unfolding M.panned M.voice_read
panned-rest m i q a = by_place (ltb i m.n) refl
  where
    v : Voice
    v = get_or m.voices i (silent_voice 0)

    by_place : (t : Bool) → ltb i m.n ≡ t → Rest (M.panned_at m i q (cond t (Some v) None))
    by_place true e = stored-rest m i (with_pan v q) (ltb-true i m.n e) a
    by_place false e = a

gained-rest : (m : Mixer) (gain : ℕ) → Rest m → Rest (M.with_master_gain m gain)
unfolding M.with_master_gain
gained-rest m gain a = a

gained-sized : (m : Mixer) (gain : ℕ) → Sized m → Sized (M.with_master_gain m gain)
unfolding M.with_master_gain
gained-sized m gain s = record { few = s.few; full = s.full; fade = s.fade }

gained-alike : (m : Mixer) (gain : ℕ) → map audible (M.with_master_gain m gain).voices ≡ map audible m.voices
unfolding M.with_master_gain
gained-alike m gain = refl

-- ---- a stop and a bank
stopped-sized : (m : Mixer) → Sized m → Sized (M.stopped m)
unfolding M.stopped
stopped-sized m s = record { few = s.few; full = length-map_first stopped_voice m.n m.voices ∙ s.full; fade = λ e. never e }

banked-kept : (p : Present) (h : History) (b : Told SoundBank) → Kept p h
    → let c = M.banked_by p.mixer b in Kept (beside c.mixer (bank_marks c.outcome p.marks)) h
banked-kept p h (refused n) k = k
banked-kept p h (value b) k =
    let s = k.ready.sized in
    silent-kept (M.holding_bank p.mixer b) h p.marks.master p.marks.sounds_on
    (record { few = s.few; full = refl; fade = s.fade })
    (all_replicate (λ (v : Voice). audible v ≡ false) 16 (silent_voice b.sample_rate_hz) (silent b.sample_rate_hz))
    (sym k.alike.master) (sym k.alike.on) (sym k.alike.marks.long ∙ k.ready.marked) k.past

all-stopped-here : (m : Mixer) → Rest m → All (λ v. audible v ≡ false) (M.stopped m).voices
unfolding M.stopped
all-stopped-here m a = all-stopped m.n m.voices a

-- ---- every call, every frame
call-kept01 : (c : S.Call) (s : Lined) (h : History) → Kept s.present h → Kept (called01 c s).present (called_now01 c s h)
unfolding M.banked
call-kept01 (play bytes r) s h k = played-kept s.present h bytes r k
call-kept01 (tone hz ms w) s h k =
    let m = s.present.mixer in
    begun_kept s.present h 0 (P.toned m hz ms w) k (omega arith) (toned-sized m hz ms w k.ready.sized) (toned-rest m hz ms w k.rest) (toned-others m hz ms w)
call-kept01 (poly_blep hz ms w) s h k =
    let m = s.present.mixer in
    begun_kept s.present h 0 (P.poly_bleped m hz ms w) k (omega arith) (bleped-sized m hz ms w k.ready.sized) (bleped-rest m hz ms w k.rest) (bleped-others m hz ms w)
call-kept01 (bank rate count len) s h k = banked-kept s.present h (bank_of rate count len) k
call-kept01 (pan i q) s h k = changed-kept s.present h (M.panned s.present.mixer i q) k (panned-sized s.present.mixer i q k.ready.sized) (panned-rest s.present.mixer i q k.rest) (panned-alike s.present.mixer i q)
call-kept01 (master_gain gain) s h k = changed-kept s.present h (M.with_master_gain s.present.mixer gain) k (gained-sized s.present.mixer gain k.ready.sized) (gained-rest s.present.mixer gain k.rest) (gained-alike s.present.mixer gain)
call-kept01 stop s h k =
    silent-kept (M.stopped s.present.mixer) _ true s.present.marks.sounds_on (stopped-sized s.present.mixer k.ready.sized) (all-stopped-here s.present.mixer k.rest) refl
    (sym k.alike.on)
    (sym k.alike.marks.long ∙ k.ready.marked) k.past
call-kept01 (fade bytes id ms adsr) s h k =
    let m = s.present.mixer in
    faded-kept false s.present h (F.faded_under true m bytes id ms adsr) k (faded-sized m bytes id ms adsr k.ready.sized) (faded-rest m bytes id ms adsr k.rest) (faded-heard m bytes id ms adsr)
call-kept01 look s h k = k

pub call_kept : (c : Call) (s : Lined) (h : History) → Kept s.present h → Kept (called c s).present (called_now c s h)
call_kept (by01 c) s h k = call-kept01 c s h k
call_kept (fade_on bytes id ms adsr) s h k =
    let m = s.present.mixer in
    faded-kept true s.present h (F.faded_on m bytes id ms adsr) k (on-sized m bytes id ms adsr k.ready.sized) (on-rest m bytes id ms adsr k.rest) (on-heard m bytes id ms adsr)
call_kept (leave label r) s h k = k
call_kept (withdraw label) s h k = k

-- those that go in, one after another
enter-kept : (bytes : List ℕ) (ws : List Waiting) (p : Present) (k : Option (AudioError × ℕ)) (h : History) → Kept p h → Kept (entered bytes p k ws).present (entered_now bytes p ws h)
unfolding entered_now
enter-kept bytes [] p k h c = rw (entered-none bytes p k) c
enter-kept bytes (w ∷ ws) p k h c =
    let q = played_present p bytes w.request in
    by-test voice_free p
    (λ e.
    rw (entered-free bytes p k w ws e, e)
    (enter-kept bytes ws q.present (kept_after q.outcome w.label k) (handed_now (told q.outcome) h) (played-kept p h bytes w.request c)))
    (λ e. rw (entered-busy bytes p k (w ∷ ws) e, e) c)

frame-kept : (f : Lent) (s : Lined) (h : History) → Kept s.present h → Kept (framed f s).present (framed_now f s h)
frame-kept f s h k = by_kind f.kind
  where
    e : Lined
    e = entered_in f.bytes s

    g : History
    g = entered_now f.bytes s.present (in_line s.line) h

    c : Kept e.present g
    c = enter-kept f.bytes (in_line s.line) s.present s.kept h k

    by_kind : (z : Frame) → Kept (frame_step z f.bytes s).present (advanced_now e.present g)
    by_kind mono = mono-kept e.present g c
    by_kind duty = duty-kept e.present g c
    by_kind stereo = stereo-kept e.present g c

-- ---- in any order
pub along : (ss : List (Step Lent Call)) (s : Lined) (h : History) → Kept s.present h → Kept (after_all box ss s).present (history_of ss s h)
unfolding after_all history_of
along [] s h k = k
along (frame f ∷ ss) s h k = along ss (framed f s) (framed_now f s h) (frame-kept f s h k)
along (call c ∷ ss) s h k = along ss (called c s) (called_now c s h) (call_kept c s h k)

opened-sized : (n : ℕ) (config : AudioConfig) (policy : VoiceStealingPolicy) → Sized (M.opened n config policy).mixer
unfolding M.opened M.fresh
opened-sized n config policy = go (ltb 16 n) (ltb 65537 config.sample_rate_hz) (ltb config.pwm_period 2) refl
  where
    go : (a b c : Bool) → ltb 16 n ≡ a
        → Sized (cond a (M.not_opened 1) (cond b (M.not_opened 2) (cond c (M.not_opened 3) (record { outcome = (Ok tt); mixer = M.fresh n config policy })))).mixer
    go true b c e = record { few = omega arith; full = refl; fade = λ f. never f }
    go false true c e = record { few = omega arith; full = refl; fade = λ f. never f }
    go false false true e = record { few = omega arith; full = refl; fade = λ f. never f }
    go false false false e = record { few = ltb-false 16 n e; full = refl; fade = λ f. never f }

none-past : (i : ℕ) → rank_at (replicate 16 nothing) i < 256
none-past i = go 16 i
  where
    go : (m j : ℕ) → rank_at (replicate m nothing) j < 256
    go zero j = omega arith
    go (suc m) zero = omega arith
    go (suc m) (suc j) = go m j

pub from-opening : (n : ℕ) (config : AudioConfig) (policy : VoiceStealingPolicy) (ss : List (Step Lent Call))
    → let s = (opened n config policy).lined in Kept (after_all box ss s).present (history_of ss s unstarted)
from-opening n config policy ss =
    let s = (opened n config policy).lined in
    along ss s unstarted (silent-kept s.present.mixer unstarted true false (opened-sized n config policy) (opened-silent n config policy) refl refl refl none-past)

-- "the ranks are those that start times would give": after calls and frames in any order, from an opening on
pub by-starts : (n : ℕ) (config : AudioConfig) (policy : VoiceStealingPolicy) (ss : List (Step Lent Call))
    → ByHistory (after_all box ss (opened n config policy).lined) (history_of ss (opened n config policy).lined unstarted)
by-starts n config policy ss = by-history _ _ (from-opening n config policy ss)

-- ---- "of two voices that stay audible and are not started, the order never changes"
kept-order : {p q : Present} {h g : History} → Kept p h → Kept q g → (i j : ℕ) → heard_at (heard_of p) i ≡ true → heard_at (heard_of p) j ≡ true → heard_at (heard_of q) i ≡ true
    → heard_at (heard_of q) j ≡ true → rank_at g.marks.voices i ≡ rank_at h.marks.voices i → rank_at g.marks.voices j ≡ rank_at h.marks.voices j
    → ltb (rank_at q.marks.voices i) (rank_at q.marks.voices j) ≡ ltb (rank_at p.marks.voices i) (rank_at p.marks.voices j)
kept-order k l i j a b c d e f = l.alike.marks.order i j c d ∙ rw (e, f) (sym (k.alike.marks.order i j a b))

-- after ss, and after ts more: voices audible at both times, started last at the same time
pub same-order : (n : ℕ) (config : AudioConfig) (policy : VoiceStealingPolicy) (ss ts : List (Step Lent Call)) (i j : ℕ)
    → let s = (opened n config policy).lined in
    let before = after_all box ss s in
    let then = history_of ss s unstarted in
    let after = after_all box ts before in
    let now = history_of ts before then in
    heard_at (heard_of before.present) i ≡ true → heard_at (heard_of before.present) j ≡ true → heard_at (heard_of after.present) i ≡ true → heard_at (heard_of after.present) j ≡ true
    → rank_at now.marks.voices i ≡ rank_at then.marks.voices i → rank_at now.marks.voices j ≡ rank_at then.marks.voices j
    → ltb (rank_at after.present.marks.voices i) (rank_at after.present.marks.voices j) ≡ ltb (rank_at before.present.marks.voices i) (rank_at before.present.marks.voices j)
same-order n config policy ss ts i j =
    let k = from-opening n config policy ss in
    kept-order k (along ts _ _ k) i j
