-- Frames of a state with its line, many at once. Assumes nothing.
use Prim.Native.Nat.{ℕ, zero, suc, ◌≤◌, ◌<◌}
use native.Mathlib.Omega.{arith}
use mathlib.Core.Path.{◌≡◌, refl, ap, sym, ◌∙◌}
use mathlib.Core.Bool.{false}
use mathlib.Core.List.{List, ◌++◌}
use mathlib.Core.Logic.{⊎_elim}
use lib.ListN.{length}
use Rattle.laws.specs.Runs.{after, given}
use Rattle.marks.specs.declared.Present.{Present}
use Rattle.waiting.specs.Lines as W
use Rattle.waiting.proofs.Laws.{length-line}
use Rattle.entering.specs.Entering.{voice_free, entered_in}
use Rattle.entering.specs.Lined.{Valid, lined}
use Rattle.entering.specs.declared.Lined.{Lined}
use Rattle.entering.proofs.Fates.{enters}
use Rattle.entering.proofs.Laws.{none_left, none-waiting, no-voice-free, valid-line-left}
use Rattle.spans.specs.Frames.{framed_lined, given_lined}
use Rattle.spans.specs.Spans.{steady_frames}
use Rattle.spans.proofs.Steady.{IsFrame, still-busy}

-- ---- where nobody goes in
module _ (step : Present → Present) (bytes : List ℕ) where
  -- at the start of none of k frames does one go in
  abbrev pub Quiet : ℕ → Lined → Type 0
  Quiet k s = (j : ℕ) → j < k → entered_in bytes (lined (after step j s.present) s.kept s.line) ≡ lined (after step j s.present) s.kept s.line

  quiet-on : (k : ℕ) (s : Lined) → Quiet (suc k) s → Quiet k (lined (step s.present) s.kept s.line)
  unfolding after
  quiet-on k s q j h = q (suc j) (omega arith)

  first : (k : ℕ) (s : Lined) → Quiet (suc k) s → entered_in bytes s ≡ s
  unfolding after
  first k s q = q 0 (omega arith)

  pub quiet-after : (k : ℕ) (s : Lined) → Quiet k s → after (framed_lined step bytes) k s ≡ lined (after step k s.present) s.kept s.line
  unfolding after
  quiet-after zero s q = refl
  quiet-after (suc k) s q =
      ap (after (framed_lined step bytes) k) (ap (λ (e : Lined). lined (step e.present) e.kept e.line) (first k s q))
      ∙ quiet-after k (lined (step s.present) s.kept s.line) (quiet-on k s q)

  pub quiet-given : {A : Type 0} (gives : Present → List A) (k : ℕ) (s : Lined) → Quiet k s
      → given (framed_lined step bytes) (given_lined gives bytes) k s ≡ given step gives k s.present
  unfolding given
  quiet-given gives zero s q = refl
  quiet-given {A} gives (suc k) s q =
      ap (λ (e : Lined). gives e.present ++ given (framed_lined step bytes) (given_lined gives bytes) k (lined (step e.present) e.kept e.line)) (first k s q)
      ∙ ap (λ (l : List A). gives s.present ++ l) (quiet-given gives k (lined (step s.present) s.kept s.line) (quiet-on k s q))

  -- "With none waiting, a frame is as before."
  pub none-quiet : (k : ℕ) (s : Lined) → W.Valid s.line → s.line.count ≡ 0 → Quiet k s
  none-quiet k s h e j l = none-waiting bytes (lined (after step j s.present) s.kept s.line) h e

  -- with no voice free, as many frames as surely leave none free
  pub busy-quiet : IsFrame step → (k : ℕ) (s : Lined) → Valid s → voice_free s.present ≡ false → k ≤ steady_frames s.present.mixer → Quiet k s
  busy-quiet f k s h e n j l =
      no-voice-free bytes (lined (after step j s.present) s.kept s.line) h.line (still-busy step f s.present h.present e j (omega arith))

-- ---- those that wait go in once
pub enter-once : (bytes : List ℕ) (s : Lined) → Valid s → entered_in bytes (entered_in bytes s) ≡ entered_in bytes s
enter-once bytes s h =
    ⊎_elim
    (λ e. none_left bytes (entered_in bytes s) (valid-line-left bytes s h.line) e)
    (λ e. no-voice-free bytes (entered_in bytes s) (valid-line-left bytes s h.line) e)
    (enters bytes s h).ends

-- where one still waits, no voice is free
pub waits-busy : (bytes : List ℕ) (s : Lined) → Valid s → ((entered_in bytes s).line.count ≡ 0 → ⊥) → voice_free (entered_in bytes s).present ≡ false
waits-busy bytes s h n =
    ⊎_elim (λ e. absurd (n (sym (length-line (valid-line-left bytes s h.line)) ∙ ap length e))) (λ e. e) (enters bytes s h).ends

-- Frames from s on, of which only at the first one some may go in: they go in once, and the frames are the plain ones.
module _ (step : Present → Present) (bytes : List ℕ) (s : Lined) (h : Valid s) (k : ℕ) (q : Quiet step bytes (suc k) (entered_in bytes s)) where
  pub span-after : after (framed_lined step bytes) (suc k) s
      ≡ (let e = entered_in bytes s in lined (after step (suc k) e.present) e.kept e.line)
  unfolding after
  span-after =
      ap (λ (e : Lined). after (framed_lined step bytes) k (lined (step e.present) e.kept e.line)) (sym (enter-once bytes s h))
      ∙ quiet-after step bytes (suc k) (entered_in bytes s) q

  pub span-given : {A : Type 0} (gives : Present → List A)
      → given (framed_lined step bytes) (given_lined gives bytes) (suc k) s ≡ given step gives (suc k) (entered_in bytes s).present
  unfolding given
  span-given gives =
      ap (λ (e : Lined). gives e.present ++ given (framed_lined step bytes) (given_lined gives bytes) k (lined (step e.present) e.kept e.line))
      (sym (enter-once bytes s h))
      ∙ quiet-given step bytes gives (suc k) (entered_in bytes s) q
