-- After the end of a fade of the second call the sound goes on. Assumes nothing.
use Prim.Native.Nat.{ℕ, zero, suc, ◌+◌, ◌-◌, ◌≤◌, ◌<◌, max}
use native.Mathlib.Omega.{arith}
use mathlib.Core.Path.{◌≡◌, refl, ap, sym, ◌∙◌}
use mathlib.Core.Bool.{Bool, true, false}
use mathlib.Core.List.{List, [], ◌∷◌}
use mathlib.Core.Logic.{◌⊎◌, inl, inr}
use mathlib.Core.Option.{some}
use borrow.Author.Tests.{ltb-true, ltb-false}
use lib.Dec.{ltb}
use lib.ListN.{length, get_or, get_elem?, set, length-set}
use lib.Seq.{get_or-set_other}
use Rattle.config.specs.Config.{rounded_up}
use Rattle.entering.specs.Entering.{entered_in}
use Rattle.entering.specs.Lined as E
use Rattle.entering.specs.Fates.{Fate, Tried, Tries, over, next}
use Rattle.entering.specs.declared.Lined.{Lined}
use Rattle.entering.proofs.Fates.{not-given, enters-in}
use Rattle.entering.proofs.Free.{is-first}
use Rattle.entering.proofs.Laws.{none-enters, enter-keeps}
use Rattle.error.specs.Told.{told, Told, value, refused}
use Rattle.frame.specs.Fades.{next_t, voice_at}
use Rattle.frame.specs.Frames.{mono_frame_by, duty_frame_by, stereo_frame_by, enveloped, sampled}
use Rattle.frame.specs.Lasting.{frames_left, after_all}
use Rattle.frame.specs.Sounding.{advanced_state, run_alone}
use Rattle.frame.proofs.Lasting.{Moves, valid-moves, up-some, up_more, left-none, same_left}
use Rattle.frame.proofs.Alike.{settling-alike}
use Rattle.frame.proofs.Sized.{Sized, Ready, valid-ready, sized-advanced}
use Rattle.frame.proofs.Sounding.{Runs, runs-heard, runs-still, runs-settled, gives-sample, gives-pair, mono-runs, duty-runs, stereo-runs, still-runs, ends-runs, framed-heard}
use Rattle.laws.specs.Runs.{after}
use Rattle.marks.specs.Marks.{started_mark, marked_at, beside, settled}
use Rattle.marks.specs.declared.Mark.{Mark}
use Rattle.marks.specs.declared.Present.{Present}
use Rattle.mixer.specs.Mixers.{with_voices}
use Rattle.mixer.specs.declared.Mixer.{Mixer}
use Rattle.play.specs.Plays.{played_under}
use Rattle.requests.specs.Presents.{started_in, played_present}
use Rattle.spans.proofs.Fades.{enter-fade}
use Rattle.start.specs.declared.Request.{Request}
use Rattle.steps.specs.Steps.{Frame, mono, duty, stereo}
use Rattle.voice.specs.Rests as R
use Rattle.voice.specs.Voices.{silent_voice, audible}
use Rattle.voice.specs.declared.Voice.{Voice}
use Rattle.waiting.specs.declared.Waiting.{Waiting}
use Rattle.sounder.specs.Sounding.{frames_after, at_start, second, second_rule, Undisturbed, SoundsOn}
use Rattle.sounder.specs.Steps.{frame_step, Lent, framed}

-- voice 0 runs on, in a state of no more voices than there are places
record Going (o v : Voice) (w : Bool) (p : Present) : Type 0 where
  runs : Runs o v w p
  few : p.mixer.n ≤ 16

-- ---- a request that goes in takes no audible voice
first-there : (vs : List Voice) → 1 ≤ length vs → get_elem? vs 0 ≡ some (get_or vs 0 (silent_voice 0))
first-there [] h = absurd (omega arith)
first-there (v ∷ vs) h = refl

module _ {o v : Voice} {w : Bool} (a : audible v ≡ true) (bytes : List ℕ) where
  fate-going : (p q : Present) (x : Waiting) (t : Told ℕ) → Fate bytes p x t q → Going o v w p → Going o v w q
  unfolding settled
  fate-going p q x (refused n) f g = rw f.state g
  fate-going p q x (value i) f g =
      let r = g.runs in
      let there = first-there p.mixer.voices (omega (arith, r.full)) in
      let apart = not-given p.mixer i 0 (voice_at p.mixer 0) (is-first p.mixer i f.place) there (runs-heard p r ∙ a) in
      rw f.state
      (record {
        runs =
            runs-settled (beside (with_voices p.mixer (set p.mixer.voices i f.voice)) (marked_at i started_mark p.marks))
            (record {
              still = r.still;
              there = r.there;
              full = length-set p.mixer.voices i f.voice ∙ r.full;
              marked = length-set p.marks.voices i started_mark ∙ r.marked;
              voice = get_or-set_other p.mixer.voices i 0 f.voice (silent_voice 0) apart ∙ r.voice;
              rule = λ h. ap (λ (k : Mark). k.whole) (get_or-set_other p.marks.voices i 0 started_mark _ apart) ∙ r.rule h;
            });
        few = g.few;
      })

  tries-going : {p after : Present} {ts : List Tried} → Tries bytes p ts after → Going o v w p → Going o v w after
  tries-going over g = g
  tries-going {p} (next {q = q} {t = t} e f r) g = tries-going r (fate-going p q t.who t.told f g)

enter-going : {o v : Voice} {w : Bool} (bytes : List ℕ) (s : Lined) → (s.line.count ≡ 0) ⊎ (audible v ≡ true) → Going o v w s.present → Going o v w (entered_in bytes s).present
enter-going bytes s (inl e) g = rw (none-enters bytes s e) g
enter-going bytes s (inr a) g = tries-going a bytes (enters-in bytes s (omega (arith, g.few, g.runs.full))).tries g

-- ---- frames
frame-going : {o v : Voice} {w : Bool} (f : Frame) (bytes : List ℕ) (s : Lined) → Going o v w (advanced_state (entered_in bytes s).present)
    → Going o (R.framed true v) w (frame_step f bytes s).present
unfolding settled mono_frame_by duty_frame_by stereo_frame_by enveloped sampled
frame-going mono bytes s g = record { runs = runs-settled _ (mono-runs (entered_in bytes s).present g.runs); few = g.few }
frame-going duty bytes s g = record { runs = runs-settled _ (duty-runs (entered_in bytes s).present g.runs); few = g.few }
frame-going stereo bytes s g = record { runs = runs-settled _ (stereo-runs (entered_in bytes s).present g.runs); few = g.few }

still-going : {o v : Voice} {w : Bool} (p : Present) → Going o v w p → Going o v w (advanced_state p)
still-going p g = record { runs = still-runs p g.runs; few = let e = ap (λ (q : Present). q.mixer.n) (runs-still p g.runs) in omega (arith, g.few, e) }

-- with none waiting, none waits after it
line_stays : (f : Frame) (bytes : List ℕ) (s : Lined) → (entered_in bytes s).line.count ≡ 0 → (frame_step f bytes s).line.count ≡ 0
line_stays mono bytes s e = e
line_stays duty bytes s e = e
line_stays stereo bytes s e = e

-- at the start of none of the next n frames does a request get the voice
abbrev Free : Lined → ℕ → Voice → Type 0
Free s n v = (s.line.count ≡ 0) ⊎ ((k : ℕ) → k < n → audible (run_alone k v) ≡ true)

free-now : (s : Lined) (n : ℕ) (v : Voice) → Free s (suc n) v → (s.line.count ≡ 0) ⊎ (audible v ≡ true)
unfolding after
free-now s n v (inl e) = inl e
free-now s n v (inr h) = inr (h 0 (omega arith))

free_on : (s : Lined) (n : ℕ) (v : Voice) (f : Frame) (bytes : List ℕ) → Free s (suc n) v → Free (frame_step f bytes s) n (R.framed true v)
unfolding after
free_on s n v f bytes (inl e) = inl (line_stays f bytes s (ap (λ (x : Lined). x.line.count) (none-enters bytes s e)))
free_on s n v f bytes (inr h) = inr (λ k l. h (suc k) (omega arith))

record Gone (o v : Voice) (w : Bool) (n : ℕ) (s : Lined) : Type 0 where
  going : Going o v w s.present
  free : Free s n v

frames-going : {o : Voice} {w : Bool} (fs : List Lent) {v : Voice} (n : ℕ) (s : Lined) → Going o v w s.present → Free s (length fs + n) v
    → Gone o (run_alone (length fs) v) w n (frames_after fs s)
unfolding after_all after
frames-going [] {v = v} n s g h = let e : length {A = Lent} [] + n ≡ n = omega arith in record { going = g; free = rw e at h }
frames-going (f ∷ fs) {v = v} n s g h =
    let e : length (f ∷ fs) + n ≡ suc (length fs + n) = omega arith in
    let l : Free s (suc (length fs + n)) v = rw e at h in
    frames-going fs n (framed f s)
    (frame-going f.kind f.bytes s (still-going _ (enter-going f.bytes s (free-now s (length fs + n) v l) g)))
    (free_on s (length fs + n) v f.kind f.bytes l)

-- what can be heard after n frames, can before
heard-before : (n k : ℕ) (v : Voice) → k ≤ n → audible (run_alone n v) ≡ true → audible (run_alone k v) ≡ true
unfolding after
heard-before zero zero v l h = h
heard-before zero (suc k) v l h = absurd (omega arith)
heard-before (suc n) zero v l h = framed-heard v (heard-before n 0 (R.framed true v) (omega arith) h)
heard-before (suc n) (suc k) v l h = heard-before n k (R.framed true v) (omega arith) h

-- no request takes the place of voice 1's sound within so many frames
undisturbed : (f : Lent) (s : Lined) (n m : ℕ) → Undisturbed f s m → n ≡ m → Free (framed f s) n (R.framed true (second f s))
unfolding after
undisturbed f s n m (inl e) q = inl (line_stays f.kind f.bytes s e)
undisturbed f s n m (inr h) q = inr (λ k l. heard-before m (suc k) (second f s) (omega (arith, q)) h)

-- ---- who goes in changes no size
abbrev Roomy : Present → Type 0
Roomy p = Sized p.mixer × (length p.marks.voices ≡ 16)

fate-sized : (bytes : List ℕ) (p q : Present) (x : Waiting) (t : Told ℕ) → Fate bytes p x t q → Roomy p → Roomy q
unfolding settled
fate-sized bytes p q x (refused n) f g = rw f.state g
fate-sized bytes p q x (value i) f g =
    let m = g.0 in
    let after = beside (with_voices p.mixer (set p.mixer.voices i f.voice)) (marked_at i started_mark p.marks) in
    let full = length-set p.mixer.voices i f.voice ∙ m.full in
    let long = length-set p.marks.voices i started_mark ∙ g.1 in
    rw f.state (record { few = m.few; full = full; fade = m.fade }, (settling-alike after full long).marks.long ∙ long)

tries-sized : (bytes : List ℕ) {p after : Present} {ts : List Tried} → Tries bytes p ts after → Roomy p → Roomy after
tries-sized bytes over g = g
tries-sized bytes {p} (next {q = q} {t = t} e f r) g = tries-sized bytes r (fate-sized bytes p q t.who t.told f g)

-- a fade with one frame left ends in it
one_left : (m : Mixer) → Moves m → frames_left m ≡ 1 → (m.crossfade_active ≡ true) × (next_t m ≡ 255)
unfolding frames_left
one_left m k e = by-active m.crossfade_active refl
  where
    by-active : (a : Bool) → m.crossfade_active ≡ a → (m.crossfade_active ≡ true) × (next_t m ≡ 255)
    by-active false a = let z = left-none m a in absurd (omega arith)
    by-active true a = (a, by-test (ltb m.crossfade_step_q8 (255 - m.crossfade_t_q8)) refl)
      where
        by-test : (b : Bool) → ltb m.crossfade_step_q8 (255 - m.crossfade_t_q8) ≡ b → next_t m ≡ 255
        by-test true l =
            let s = k a in
            let lt = ltb-true m.crossfade_step_q8 (255 - m.crossfade_t_q8) l in
            let u = up_more (255 - m.crossfade_t_q8) m.crossfade_step_q8 s lt in
            let v = up-some (255 - m.crossfade_t_q8 - m.crossfade_step_q8) m.crossfade_step_q8 s (omega arith) in
            let one : max 1 (rounded_up (255 - m.crossfade_t_q8) m.crossfade_step_q8) ≡ 1 = rw a at e in
            absurd (omega arith)
        by-test false l = let ge = ltb-false m.crossfade_step_q8 (255 - m.crossfade_t_q8) l in omega arith

-- a request leaves which call began the last fade
played-on : (p : Present) (bytes : List ℕ) (r : Request) → (played_present p bytes r).present.marks.sounds_on ≡ p.marks.sounds_on
unfolding settled
played-on p bytes r = go (told (played_under true p bytes r).outcome)
  where
    go : (t : Told ℕ) → (started_in (played_under true p bytes r).mixer p.marks t).marks.sounds_on ≡ p.marks.sounds_on
    go (value i) = refl
    go (refused n) = refl

-- in any state that frames can be made of
pub ready-sounds-on : (f : Lent) (s : Lined) → Ready s.present → Moves s.present.mixer → frames_left s.present.mixer ≡ 1
    → s.present.marks.sounds_on ≡ true → SoundsOn f s
unfolding after_all after
ready-sounds-on f s h k l on =
    let p = at_start f.bytes s in
    let fade = enter-fade f.bytes s in
    let size = tries-sized f.bytes (enters-in f.bytes s (omega (arith, h.sized.few, h.sized.full))).tries (h.sized, h.marked) in
    let e = one_left p.mixer (λ a. rw fade.step (k (sym fade.active ∙ a))) (same_left fade ∙ l) in
    let begun = enter-keeps f.bytes (λ q. q.marks.sounds_on ≡ true) (λ q r free i. played-on q f.bytes r ∙ i) s on in
    let r = ends-runs p size.0 size.1 e.0 e.1 begun in
    let going : Going (voice_at p.mixer 0) (second f s) (second_rule f s) (advanced_state p) = record { runs = r; few = (sized-advanced p.marks.sounds_on size.0).few } in
    let one = frame-going f.kind f.bytes s going in
    let later : (fs : List Lent) (bytes : List ℕ) → Undisturbed f s (suc (length fs))
    → Runs (voice_at p.mixer 0) (run_alone (length fs) (R.framed true (second f s))) (second_rule f s) (advanced_state (at_start bytes (frames_after fs (framed f s))))
    = λ fs bytes u.
    let e = frames_after fs (framed f s) in
    let v = run_alone (length fs) (R.framed true (second f s)) in
    let g = frames-going fs 1 (framed f s) one (undisturbed f s (length fs + 1) (suc (length fs)) u (omega arith)) in
    still-runs _ (enter-going bytes e (free-now e 0 v g.free) g.going).runs in
    record {
      taken = runs-heard _ r;
      mono = gives-sample p r;
      stereo = gives-pair p r;
      mono_on = λ fs bytes u. gives-sample _ (later fs bytes u);
      stereo_on = λ fs bytes u. gives-pair _ (later fs bytes u);
      heard = λ fs u. runs-heard _ (frames-going fs 0 (framed f s) one (undisturbed f s (length fs + 0) (length fs) u (omega arith))).going.runs;
    }

pub sounds-on : (f : Lent) (s : Lined) → E.Valid s → frames_left s.present.mixer ≡ 1 → s.present.marks.sounds_on ≡ true → SoundsOn f s
sounds-on f s h l on = ready-sounds-on f s (valid-ready s.present h.present) (valid-moves h.present.inside) l on
