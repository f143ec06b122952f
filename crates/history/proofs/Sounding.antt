-- From an opening on: a fade of the second call has its end after its count of frames, whatever comes between but a stop and another fade, and then the
-- sound goes on. Assumes nothing.
use Rattle.std.specs.Prelude.{Err, Ok, Result}
use Prim.Native.Nat.{ℕ, ◌+◌, ◌≤◌}
use native.Mathlib.Omega.{arith}
use mathlib.Core.Path.{◌≡◌, refl, ap, sym, ◌∙◌}
use mathlib.Core.Bool.{Bool, true, false, cond, ◌&&◌}
use mathlib.Core.List.{List, [], ◌∷◌}
use lib.Dec.{ltb, eqb}
use Rattle.bank.specs.Search.{found_given}
use Rattle.bank.specs.declared.EffectEntry.{EffectEntry}
use Rattle.config.specs.Config.{fade_step}
use Rattle.config.specs.declared.AudioConfig.{AudioConfig}
use Rattle.config.proofs.Laws.{step-least}
use Rattle.entering.specs.Entering.{voice_free, entered_in}
use Rattle.envelope.specs.declared.AdsrSpec.{AdsrSpec}
use Rattle.error.specs.Told.{told, Told, value, refused, value_in, passed}
use Rattle.frame.specs.Fades.{fade_ended_with, fade_ended_by, fade_at, next_t, advanced_by, advanced}
use Rattle.frame.specs.Lasting.{fade_count, SameFade, Step, frame, call, after_all, frames_in, unbroken}
use Rattle.frame.proofs.Alike.{marks-on}
use Rattle.frame.proofs.Lasting.{Moves}
use Rattle.laws.proofs.Bools.{never}
use Rattle.marks.specs.Marks.{settled}
use Rattle.marks.specs.declared.Present.{Present}
use Rattle.mixer.specs.Mixers as M
use Rattle.mixer.specs.declared.Changed.{Changed}
use Rattle.mixer.specs.declared.Mixer.{Mixer}
use Rattle.mixer.specs.declared.VoiceStealingPolicy.{VoiceStealingPolicy}
use Rattle.play.specs.Fades as F
use Rattle.requests.specs.Presents.{played_present}
use Rattle.play.proofs.Laws.{OnOrNot, turned, began, on-or-not}
use Rattle.play.proofs.Parted.{same-fade}
use Rattle.start.specs.Starts.{entry_start_under}
use Rattle.steps.specs.Steps as S
use Rattle.steps.specs.Steps.{play, tone, poly_blep, bank, pan, master_gain, stop, fade, look, turned_down}
use Rattle.voice.specs.declared.Voice.{Voice}
use Rattle.waiting.specs.Lines.{in_line}
use Rattle.waiting.specs.declared.Waiting.{Waiting}
use Rattle.waiting.proofs.Lists.{by-test}
use Rattle.sounder.specs.Calls.{opened, played, faded_on}
use Rattle.sounder.specs.Sounding.{SoundsOn}
use Rattle.sounder.specs.Steps.{Lent, framed, Call, by01, fade_on, leave, withdraw, called, goes_on, box}
use Rattle.entering.specs.declared.Lined.{Lined}
use Rattle.sounder.proofs.Sounding.{ready-sounds-on}
use Rattle.sounder.proofs.Steps.{box-lawful, fade-on-takes}
use Rattle.history.specs.Histories.{History, unstarted, handed_now, faded_now, called_now01, called_now, entered_now, framed_now, history_of}
use Rattle.history.proofs.Calls.{from-opening, call_kept, along}
use Rattle.error.specs.declared.AudioError.{AudioError}

-- ---- what lets a fade go on leaves the call that began the last one
handed-leaves : (t : Told ℕ) (h : History) → (handed_now t h).marks.sounds_on ≡ h.marks.sounds_on
handed-leaves (value i) h = refl
handed-leaves (refused n) h = refl

down-leaves : (on : Bool) (o : Result (Unit {0}) AudioError) (h : History) → turned_down (told o) ≡ true → (faded_now on o h).marks.sounds_on ≡ h.marks.sounds_on
down-leaves on (Ok tt) h g = never g
down-leaves on (Err e) h g = refl

-- a fade that one rule of a payload's refusal turns down, the other does
down_by : (s t : Told (Unit {0})) → value_in s ≡ value_in t → turned_down t ≡ true → turned_down s ≡ true
down_by (value x) (value y) e g = g
down_by (value x) (refused n) e g = cc
down_by (refused k) t e g = refl

leaves01 : (c : S.Call) (s : Lined) (h : History) → goes_on (by01 c) s ≡ true → (called_now01 c s h).marks.sounds_on ≡ h.marks.sounds_on
leaves01 (play bytes r) s h g = handed-leaves (told (played s bytes r).gave) h
leaves01 (tone hz ms w) s h g = refl
leaves01 (poly_blep hz ms w) s h g = refl
leaves01 (bank rate count len) s h g = refl
leaves01 (pan i q) s h g = refl
leaves01 (master_gain gain) s h g = refl
leaves01 stop s h g = refl
leaves01 (fade bytes id ms adsr) s h g =
    let o : Bool → Result (Unit {0}) AudioError = λ rule. (F.faded_under rule s.present.mixer bytes id ms adsr).outcome in
    down-leaves false (o true) h (down_by (told (o true)) (told (o false)) (same-fade true false s.present.mixer bytes id ms adsr).done g)
leaves01 look s h g = refl

call-leaves : (c : Call) (s : Lined) (h : History) → goes_on c s ≡ true → (called_now c s h).marks.sounds_on ≡ h.marks.sounds_on
call-leaves (by01 c) s h g = leaves01 c s h g
call-leaves (fade_on bytes id ms adsr) s h g = down-leaves true (faded_on s bytes id ms adsr).gave h g
call-leaves (leave label r) s h g = refl
call-leaves (withdraw label) s h g = refl

-- so do those that go in
entered-leaves : (bytes : List ℕ) (ws : List Waiting) (p : Present) (h : History) → (entered_now bytes p ws h).marks.sounds_on ≡ h.marks.sounds_on
unfolding entered_now
entered-leaves bytes [] p h = refl
entered-leaves bytes (w ∷ ws) p h =
    let q = played_present p bytes w.request in
    by-test voice_free p
    (λ e. rw e (entered-leaves bytes ws q.present (handed_now (told q.outcome) h) ∙ handed-leaves (told q.outcome) h))
    (λ e. rw e)

both : (a : Bool) {b : Bool} → a && b ≡ true → (a ≡ true) × (b ≡ true)
both true h = (refl, h)
both false h = never h

steps-leave : (ss : List (Step Lent Call)) (s : Lined) (h : History) → unbroken box ss s ≡ true → (history_of ss s h).marks.sounds_on ≡ h.marks.sounds_on
unfolding unbroken history_of
steps-leave [] s h u = refl
steps-leave (frame f ∷ ss) s h u =
    let ws = in_line s.line in
    steps-leave ss (framed f s) (framed_now f s h) u
    ∙ marks-on (entered_in f.bytes s).present.mixer (entered_now f.bytes s.present ws h).marks
    ∙ entered-leaves f.bytes ws s.present h
steps-leave (call c ∷ ss) s h u =
    let g = both (goes_on c s) u in
    steps-leave ss (called c s) (called_now c s h) g.1 ∙ call-leaves c s h g.0

-- ---- and a running fade its step
advance-moves : (m : Mixer) → Moves m → Moves (advanced m)
unfolding advanced_by fade_ended_with fade_at
advance-moves m k = go m.crossfade_active (eqb (next_t m) 255) k
  where
    go : (a e : Bool) → (m.crossfade_active ≡ true → 1 ≤ m.crossfade_step_q8) → Moves (cond a (cond e (fade_ended_by false m) (fade_at m (next_t m))) m)
    go true true l = λ b. never b
    go true false l = l
    go false e l = l

same-moves : {a b : Mixer} → SameFade a b → Moves b → Moves a
same-moves f k h = rw f.step (k (sym f.active ∙ h))

steps-move : (ss : List (Step Lent Call)) (s : Lined) → Moves s.present.mixer → unbroken box ss s ≡ true → Moves (after_all box ss s).present.mixer
unfolding unbroken after_all
steps-move [] s k u = k
steps-move (frame f ∷ ss) s k u = steps-move ss (framed f s) (same-moves (box-lawful.advances f s) (advance-moves s.present.mixer k)) u
steps-move (call c ∷ ss) s k u = let g = both (goes_on c s) u in steps-move ss (called c s) (same-moves (box-lawful.leaves c s g.0) k) g.1

-- ---- a fade that is accepted
abbrev Begun : Changed → Type 0
Begun c = c.outcome ≡ (Ok tt) → 1 ≤ c.mixer.crossfade_step_q8

begun-step : (m : Mixer) (bytes : List ℕ) (id ms : ℕ) (adsr : AdsrSpec) → Begun (F.faded_under true m bytes id ms adsr)
unfolding F.faded_under F.faded_by F.first_released F.begun
begun-step m bytes id ms adsr = by_count (ltb m.n 2)
  where
    none : (n : ℕ) (x : Mixer) → Begun (M.unchanged x n)
    none n x e = never (ap (λ (o : Result (Unit {0}) AudioError). turned_down (told o)) (sym e))

    by-start : (t : Told Voice) → Begun (F.faded_by (F.first_released m) ms t)
    by-start (refused n) = none n (F.first_released m)
    by-start (value v) = λ e. step-least ms m.config.sample_rate_hz

    by-entry : (t : Told EffectEntry) → Begun (F.faded_to true m bytes ms adsr t)
    by-entry (refused n) = none n m
    by-entry (value entry) = by-start (entry_start_under true m.bank bytes entry adsr 128)

    by_count : (t : Bool) → Begun (cond t (M.unchanged m 5) (F.faded_to true m bytes ms adsr (found_given m.bank bytes id)))
    by_count true = none 5 m
    by_count false = by-entry (found_given m.bank bytes id)

module _ (s : Lined) (bytes : List ℕ) (id ms : ℕ) (adsr : AdsrSpec) (a : told (faded_on s bytes id ms adsr).gave ≡ passed) where
  accepted-moves : Moves (F.faded_on s.present.mixer bytes id ms adsr).mixer
  accepted-moves x = by_call (on-or-not s.present.mixer bytes id ms adsr)
    where
      by_call : OnOrNot s.present.mixer (F.faded_under true s.present.mixer bytes id ms adsr) (F.faded_on s.present.mixer bytes id ms adsr)
          → 1 ≤ (F.faded_on s.present.mixer bytes id ms adsr).mixer.crossfade_step_q8
      by_call (turned n e o) = never (sym (ap turned_down a) ∙ ap (λ (c : Changed). turned_down (told c.outcome)) e)
      by_call (began d e) = rw e (begun-step s.present.mixer bytes id ms adsr (rw e at d))

  accepted-on : (h : History) → (faded_now true (faded_on s bytes id ms adsr).gave h).marks.sounds_on ≡ true
  accepted-on h = go (faded_on s bytes id ms adsr).gave a
    where
      go : (o : Result (Unit {0}) AudioError) → told o ≡ passed → (faded_now true o h).marks.sounds_on ≡ true
      go (Ok tt) e = refl
      go (Err x) e = never (sym (ap turned_down e))

-- "the sound goes on": after any steps from an opening a fade of the second call is accepted, and comes, among others that let it go on, to its last frame, f
pub fade-sounds-on : (n : ℕ) (config : AudioConfig) (policy : VoiceStealingPolicy) (ss ts : List (Step Lent Call)) (bytes : List ℕ) (id ms : ℕ) (adsr : AdsrSpec) (f : Lent)
    → let s = after_all box ss (opened n config policy).lined in
    let begun = (faded_on s bytes id ms adsr).lined in
    told (faded_on s bytes id ms adsr).gave ≡ passed → unbroken box ts begun ≡ true
    → frames_in ts + 1 ≡ fade_count (fade_step ms s.present.mixer.config.sample_rate_hz) → SoundsOn f (after_all box ts begun)
unfolding settled
fade-sounds-on n config policy ss ts bytes id ms adsr f a u e =
    let first = (opened n config policy).lined in
    let s = after_all box ss first in
    let c = fade_on bytes id ms adsr in
    let h = history_of ss first unstarted in
    let k = along ts (called c s) (called_now c s h) (call_kept c s h (from-opening n config policy ss)) in
    let l = (fade-on-takes s bytes id ms adsr a).takes ts u in
    ready-sounds-on f (after_all box ts (called c s)) k.ready (steps-move ts (called c s) (accepted-moves s bytes id ms adsr a) u)
    (l.left ∙ omega arith)
    (k.alike.on ∙ steps-leave ts (called c s) (called_now c s h) u ∙ accepted-on s bytes id ms adsr a h)
