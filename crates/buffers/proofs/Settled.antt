-- A buffer of frames settles its marks once, at the end, and each frame would have settled them: the same. Assumes nothing.
use Prim.Native.Nat.{ℕ, zero, suc}
use mathlib.Core.Path.{◌≡◌, refl, sym, ap, ◌∙◌}
use mathlib.Core.List.{List, [], ◌∷◌, ◌++◌, map}
use lib.IntN.{ℤ}
use lib.ListN.{length, drop}
use Rattle.block.specs.Blocks.{ValidInside}
use Rattle.frame.proofs.Settling.{Still, mono-still, duty-still, stereo-still}
use Rattle.frame.proofs.Sized.{Ready, valid-ready}
use Rattle.laws.specs.Runs.{after, given}
use Rattle.marks.specs.Marks.{Valid, Ordered, heard_of, settled}
use Rattle.marks.specs.declared.Present.{Present}
use Rattle.marks.proofs.Laws.{settled-valid}
use Rattle.buffers.specs.Buffers.{Done, FillsIn, to_u12, to_u16}
use Rattle.buffers.specs.Shapes.{present_frames, settled_frames, shape_step, shape_raw, level_next, level_cell, FillsShape, FillsLevel, FillsFrom, LevelsFrom}
use Rattle.buffers.specs.declared.Filled.{Filled}
use Rattle.buffers.specs.declared.Level.{Level}
use Rattle.buffers.specs.declared.Level.TheVariants.{Duty, U12, U16}
use Rattle.buffers.specs.declared.Shape.{Shape}
use Rattle.buffers.specs.declared.Shape.TheVariants.{Once, Doubled, Sides}

-- ---- a step that a state may be settled before
module _ {A : Type 0} (step : Present → Present) (gives : Present → List A) (still : (p : Present) → Ready p → Still step gives p) where
  abbrev each : Present → Present
  each p = settled (step p)

  run : (n : ℕ) (p : Present) → Ready p → after each n (settled p) ≡ settled (after step n p)
  unfolding after
  run zero p h = refl
  run (suc n) p h = let s = still p h in ap (after each n) s.state ∙ run n (step p) s.keeps

  gave : (n : ℕ) (p : Present) → Ready p → given each gives n (settled p) ≡ given step gives n p
  unfolding given
  gave zero p h = refl
  gave (suc n) p h = let s = still p h in rw (s.cells, s.state, gave n (step p) s.keeps)

  ready-run : (n : ℕ) (p : Present) → Ready p → Ready (after step n p)
  unfolding after
  ready-run zero p h = h
  ready-run (suc n) p h = ready-run n (step p) (still p h).keeps

  pub fills-order : (n w : ℕ) (p : Present) (cells filled : List A) (r : Done Present) → Valid p → FillsIn ValidInside step gives n w p cells r filled
      → Ordered (heard_of r.state) r.state.marks.voices
  fills-order n w p cells filled r v h = rw h.state.same (ready-run n p (valid-ready p v)).order

  pub fills-settled : (n w : ℕ) (p : Present) (cells filled : List A) (r : Done Present) {q : Present} → Valid p → q ≡ settled r.state → FillsIn ValidInside step gives n w p cells r filled
      → FillsIn Valid each gives n w p cells (record { state = q; filled = r.filled }) filled
  fills-settled n w p cells filled r v e h =
      let z = valid-ready p v in
      let full : length r.state.marks.voices ≡ 16 = rw h.state.same (ready-run n p z).marked in
      record {
        state = record { same = e ∙ ap settled h.state.same ∙ sym (run n p z) ∙ ap (after each n) v.quiet; valid = rw e (settled-valid r.state h.state.valid full (fills-order n w p cells filled r v h)) };
        count = h.count;
        content = h.content ∙ ap (λ (l : List A). l ++ drop w cells) (sym (gave n p z) ∙ ap (given each gives n) v.quiet);
      }

-- ---- by shape and by level
pub shape-still : {A : Type 0} (scale : ℤ → A) (z : Shape) (p : Present) → Ready p → Still (shape_step present_frames z) (λ p. map scale (shape_raw present_frames z p)) p
shape-still scale Once p h = mono-still (λ s. scale s ∷ []) p h
shape-still scale Doubled p h = mono-still (λ s. scale s ∷ scale s ∷ []) p h
shape-still scale Sides p h = stereo-still (λ l r. scale l ∷ scale r ∷ []) p h

-- what settling asks
pub shape-order : {A : Type 0} (scale : ℤ → A) (z : Shape) (p : Present) {cells filled : List A} {r : Filled} → Valid p → FillsFrom scale z p cells r filled
    → Ordered (heard_of r.state) r.state.marks.voices
shape-order scale Once p v h = fills-order _ _ (shape-still scale Once) _ _ p _ _ _ v h
shape-order scale Doubled p v h = fills-order _ _ (shape-still scale Doubled) _ _ p _ _ _ v h
shape-order scale Sides p v h = fills-order _ _ (shape-still scale Sides) _ _ p _ _ _ v h

pub shape-settled : {A : Type 0} (scale : ℤ → A) (z : Shape) (p : Present) {cells filled : List A} {r : Filled} {q : Present} → Valid p → q ≡ settled r.state
    → FillsFrom scale z p cells r filled → FillsShape settled_frames Valid scale z p cells (record { state = q; filled = r.filled }) filled
shape-settled scale Once p v e h = fills-settled _ _ (shape-still scale Once) _ _ p _ _ _ v e h
shape-settled scale Doubled p v e h = fills-settled _ _ (shape-still scale Doubled) _ _ p _ _ _ v e h
shape-settled scale Sides p v e h = fills-settled _ _ (shape-still scale Sides) _ _ p _ _ _ v e h

pub level-still : (l : Level) (p : Present) → Ready p → Still (level_next present_frames l) (level_cell present_frames l) p
level-still Duty p h = duty-still (λ d. d ∷ []) p h
level-still U12 p h = mono-still (λ s. to_u12 s ∷ []) p h
level-still U16 p h = mono-still (λ s. to_u16 s ∷ []) p h

pub level-order : (l : Level) (p : Present) {cells filled : List ℕ} {r : Filled} → Valid p → LevelsFrom l p cells r filled
    → Ordered (heard_of r.state) r.state.marks.voices
level-order Duty p v h = fills-order _ _ (level-still Duty) _ _ p _ _ _ v h
level-order U12 p v h = fills-order _ _ (level-still U12) _ _ p _ _ _ v h
level-order U16 p v h = fills-order _ _ (level-still U16) _ _ p _ _ _ v h

pub level-settled : (l : Level) (p : Present) {cells filled : List ℕ} {r : Filled} {q : Present} → Valid p → q ≡ settled r.state
    → LevelsFrom l p cells r filled → FillsLevel settled_frames Valid l p cells (record { state = q; filled = r.filled }) filled
level-settled Duty p v e h = fills-settled _ _ (level-still Duty) _ _ p _ _ _ v e h
level-settled U12 p v e h = fills-settled _ _ (level-still U12) _ _ p _ _ _ v e h
level-settled U16 p v e h = fills-settled _ _ (level-still U16) _ _ p _ _ _ v e h
