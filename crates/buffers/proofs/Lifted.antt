-- A state of document 01's box, lifted, fills buffers as it does by itself. Assumes nothing.
use Prim.Native.Nat.{ℕ, zero, suc}
use mathlib.Core.Path.{◌≡◌, refl, ap, ◌∙◌}
use mathlib.Core.List.{List, ◌++◌, map}
use lib.IntN.{ℤ}
use lib.ListN.{drop}
use Rattle.frame.proofs.Laws.{mono-lifted, duty-lifted, stereo-lifted}
use Rattle.laws.specs.Runs.{after, given}
use Rattle.marks.specs.Marks.{lifted}
use Rattle.marks.specs.declared.Present.{Present}
use Rattle.mixer.specs.declared.Mixer.{Mixer}
use Rattle.buffers.specs.Buffers.{Done, Fills, FillsIn, FillsAll}
use Rattle.buffers.specs.Shapes.{present_frames, shape_step, shape_raw, level_next, level_cell, frame_step, raw_of, level_step, level_of, FillsBy, FillsFrom, LevelsFrom}
use Rattle.buffers.specs.declared.Filled.{Filled}
use Rattle.buffers.specs.declared.Level.{Level}
use Rattle.buffers.specs.declared.Level.TheVariants.{Duty, U12, U16}
use Rattle.buffers.specs.declared.Shape.{Shape}
use Rattle.buffers.specs.declared.Shape.TheVariants.{Once, Doubled, Sides}
use Rattle.block.specs.Blocks.{ValidInside}

-- steps on either side of a map that they go along
module _ {S T : Type 0} (f : S → T) (step : S → S) (step' : T → T) (along : (s : S) → step' (f s) ≡ f (step s)) where
  pub after-along : (n : ℕ) (s : S) → after step' n (f s) ≡ f (after step n s)
  unfolding after
  after-along zero s = refl
  after-along (suc n) s = ap (after step' n) (along s) ∙ after-along n (step s)

  pub given-along : {A : Type 0} (gives : S → List A) (gives' : T → List A) → ((s : S) → gives' (f s) ≡ gives s) → (n : ℕ) (s : S)
      → given step' gives' n (f s) ≡ given step gives n s
  unfolding given
  given-along gives gives' e zero s = refl
  given-along gives gives' e (suc n) s = rw (e s, along s, given-along gives gives' e n (step s))

-- what was filled, out of its marks
abbrev pub mixer_in : Filled → Done Mixer
mixer_in r = record { state = r.state.mixer; filled = r.filled }

module _ {A : Type 0} (step : Mixer → Mixer) (step' : Present → Present) (gives : Mixer → List A) (gives' : Present → List A)
    (along : (m : Mixer) → step' (lifted m) ≡ lifted (step m)) (same : (m : Mixer) → gives' (lifted m) ≡ gives m) where
  fills-lifted : (n w : ℕ) (m : Mixer) (cells filled : List A) (r : Filled) → FillsIn ValidInside step' gives' n w (lifted m) cells (record { state = r.state; filled = r.filled }) filled
      → Fills step gives n w m cells (mixer_in r) filled
  fills-lifted n w m cells filled r h =
      record {
        state = record { same = ap (λ (p : Present). p.mixer) (h.state.same ∙ after-along lifted step step' along n m); valid = h.state.valid };
        count = h.count;
        content = h.content ∙ ap (λ (l : List A). l ++ drop w cells) (given-along lifted step step' along gives gives' same n m);
      }

step-lifted : (z : Shape) (m : Mixer) → shape_step present_frames z (lifted m) ≡ lifted (frame_step z m)
step-lifted Once m = mono-lifted m
step-lifted Doubled m = mono-lifted m
step-lifted Sides m = stereo-lifted m

raw-lifted : (z : Shape) (m : Mixer) → shape_raw present_frames z (lifted m) ≡ raw_of z m
raw-lifted Once m = refl
raw-lifted Doubled m = refl
raw-lifted Sides m = refl

pub shape-lifted : {A : Type 0} (scale : ℤ → A) (z : Shape) (m : Mixer) {cells filled : List A} {r : Filled} → FillsFrom scale z (lifted m) cells r filled
    → FillsBy scale z m cells (mixer_in r) filled
shape-lifted scale z m {cells} {filled} {r} h =
    fills-lifted (frame_step z) (shape_step present_frames z) (λ m. map scale (raw_of z m)) (λ p. map scale (shape_raw present_frames z p)) (step-lifted z)
    (λ m. ap (map scale) (raw-lifted z m)) _ _ m cells filled r h

next-lifted : (l : Level) (m : Mixer) → level_next present_frames l (lifted m) ≡ lifted (level_step l m)
next-lifted Duty m = duty-lifted m
next-lifted U12 m = mono-lifted m
next-lifted U16 m = mono-lifted m

cell-lifted : (l : Level) (m : Mixer) → level_cell present_frames l (lifted m) ≡ level_of l m
cell-lifted Duty m = refl
cell-lifted U12 m = refl
cell-lifted U16 m = refl

pub level-lifted : (l : Level) (m : Mixer) {cells filled : List ℕ} {r : Filled} → LevelsFrom l (lifted m) cells r filled
    → FillsAll (level_step l) (level_of l) m cells (mixer_in r) filled
level-lifted l m {cells} {filled} {r} h =
    fills-lifted (level_step l) (level_next present_frames l) (level_of l) (level_cell present_frames l) (next-lifted l) (cell-lifted l) _ _ m cells filled r h
