-- Frames on either side of a map that they go along, and the box that is open along each of the two. Assumes nothing.
use Prim.Native.Nat.{ℕ}
use mathlib.Core.Path.{◌≡◌, refl, sym, ap, ◌∙◌}
use mathlib.Core.List.{List, ◌++◌, map}
use lib.IntN.{ℤ}
use lib.ListN.{drop}
use Rattle.buffers.specs.Buffers.{Done, FillsIn}
use Rattle.buffers.specs.Shapes.{Frames, mixer_frames, shape_step, shape_raw, level_next, level_cell, FillsShape, FillsLevel}
use Rattle.buffers.specs.declared.Level.{Level}
use Rattle.buffers.specs.declared.Level.TheVariants.{Duty, U12, U16}
use Rattle.buffers.specs.declared.Shape.{Shape}
use Rattle.buffers.specs.declared.Shape.TheVariants.{Once, Doubled, Sides}
use Rattle.buffers.proofs.Lifted.{after-along, given-along}
use Rattle.entering.specs.Lined as K
use Rattle.entering.specs.declared.Lined.{Lined}
use Rattle.mixer.specs.Mixers as M
use Rattle.mixer.specs.declared.Mixer.{Mixer}
use Rattle.sounder.specs.Frames as H
use Rattle.replay_box.specs.Boxes.{ValidBox}
use Rattle.replay_box.specs.Frames.{stepped, of, frames, Fills, Levels}
use Rattle.replay_box.specs.declared.OpenBox.TheVariants.{Engine, Sounder}

module _ {S T : Type 0} (k : Frames S) (g : Frames T) (f : S → T) where
  pub record Along : Type 0 where
    pub mono : (s : S) → g.mono (f s) ≡ f (k.mono s)
    pub duty : (s : S) → g.duty (f s) ≡ f (k.duty s)
    pub stereo : (s : S) → g.stereo (f s) ≡ f (k.stereo s)
    pub pcm : (s : S) → g.pcm (f s) ≡ k.pcm s
    pub level : (s : S) → g.level (f s) ≡ k.level s
    pub left : (s : S) → g.left (f s) ≡ k.left s
    pub right : (s : S) → g.right (f s) ≡ k.right s

module _ {S T : Type 0} {k : Frames S} {g : Frames T} {f : S → T} (a : Along k g f) where
  step-along : (z : Shape) (s : S) → shape_step g z (f s) ≡ f (shape_step k z s)
  step-along Once s = a.mono s
  step-along Doubled s = a.mono s
  step-along Sides s = a.stereo s

  raw-along : (z : Shape) (s : S) → shape_raw g z (f s) ≡ shape_raw k z s
  raw-along Once s = rw (a.pcm s)
  raw-along Doubled s = rw (a.pcm s)
  raw-along Sides s = rw (a.left s, a.right s)

  next-along : (l : Level) (s : S) → level_next g l (f s) ≡ f (level_next k l s)
  next-along Duty s = a.duty s
  next-along U12 s = a.mono s
  next-along U16 s = a.mono s

  cell-along : (l : Level) (s : S) → level_cell g l (f s) ≡ level_cell k l s
  cell-along Duty s = rw (a.level s)
  cell-along U12 s = rw (a.pcm s)
  cell-along U16 s = rw (a.pcm s)

  module _ (P : S → Type 0) (Q : T → Type 0) (keeps : (s : S) → P s → Q (f s)) where
    fills-along : {A : Type 0} (step : S → S) (step' : T → T) (gives : S → List A) (gives' : T → List A)
        → ((s : S) → step' (f s) ≡ f (step s)) → ((s : S) → gives' (f s) ≡ gives s)
        → (n w : ℕ) (s : S) (cells filled : List A) (r : Done S) → FillsIn P step gives n w s cells r filled
        → FillsIn Q step' gives' n w (f s) cells (record { state = f r.state; filled = r.filled }) filled
    fills-along {A} step step' gives gives' along same n w s cells filled r h =
        record {
          state = record { same = ap f h.state.same ∙ sym (after-along f step step' along n s); valid = keeps r.state h.state.valid };
          count = h.count;
          content = h.content ∙ ap (λ (l : List A). l ++ drop w cells) (sym (given-along f step step' along gives gives' same n s));
        }

    pub shape-along : {A : Type 0} (scale : ℤ → A) (z : Shape) (s : S) {cells filled : List A} {r : Done S} → FillsShape k P scale z s cells r filled
        → FillsShape g Q scale z (f s) cells (record { state = f r.state; filled = r.filled }) filled
    shape-along scale z s {cells} {filled} {r} h =
        fills-along (shape_step k z) (shape_step g z) (λ s. map scale (shape_raw k z s)) (λ s. map scale (shape_raw g z s)) (step-along z)
        (λ s. ap (map scale) (raw-along z s)) _ _ s cells filled r h

    pub level-along : (l : Level) (s : S) {cells filled : List ℕ} {r : Done S} → FillsLevel k P l s cells r filled
        → FillsLevel g Q l (f s) cells (record { state = f r.state; filled = r.filled }) filled
    level-along l s {cells} {filled} {r} h =
        fills-along (level_next k l) (level_next g l) (level_cell k l) (level_cell g l) (next-along l) (cell-along l) _ _ s cells filled r h

-- ---- the box that is open
sounder-along : (bytes : List ℕ) → Along (H.frames bytes) (frames bytes) Sounder
unfolding stepped of
sounder-along bytes = record { mono = λ p. refl; duty = λ p. refl; stereo = λ p. refl; pcm = λ p. refl; level = λ p. refl; left = λ p. refl; right = λ p. refl }

engine-along : (bytes : List ℕ) → Along mixer_frames (frames bytes) Engine
unfolding stepped of
engine-along bytes = record { mono = λ m. refl; duty = λ m. refl; stereo = λ m. refl; pcm = λ m. refl; level = λ m. refl; left = λ m. refl; right = λ m. refl }

pub shape-sounder : {A : Type 0} (scale : ℤ → A) (z : Shape) (bytes : List ℕ) (s : Lined) {cells filled : List A} {n : ℕ} {after : Lined}
    → H.Fills scale z bytes s cells n after filled → Fills scale z bytes (Sounder s) cells n (Sounder after) filled
shape-sounder scale z bytes s f = shape-along (sounder-along bytes) K.Valid ValidBox (λ p v. v) scale z s f

pub shape-engine : {A : Type 0} (scale : ℤ → A) (z : Shape) (bytes : List ℕ) (m : Mixer) {cells filled : List A} {n : ℕ} {after : Mixer}
    → FillsShape mixer_frames M.Valid scale z m cells (record { state = after; filled = n }) filled → Fills scale z bytes (Engine m) cells n (Engine after) filled
shape-engine scale z bytes m f = shape-along (engine-along bytes) M.Valid ValidBox (λ m v. v) scale z m f

pub level-sounder : (l : Level) (bytes : List ℕ) (s : Lined) {cells filled : List ℕ} {n : ℕ} {after : Lined}
    → H.Levels l bytes s cells n after filled → Levels l bytes (Sounder s) cells n (Sounder after) filled
level-sounder l bytes s f = level-along (sounder-along bytes) K.Valid ValidBox (λ p v. v) l s f

pub level-engine : (l : Level) (bytes : List ℕ) (m : Mixer) {cells filled : List ℕ} {n : ℕ} {after : Mixer}
    → FillsLevel mixer_frames M.Valid l m cells (record { state = after; filled = n }) filled → Levels l bytes (Engine m) cells n (Engine after) filled
level-engine l bytes m f = level-along (engine-along bytes) M.Valid ValidBox (λ m v. v) l m f
