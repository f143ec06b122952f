-- Frames of two cells each, at the front of a buffer. Assumes nothing.
use mathlib.Core.Path.{◌≡◌, refl, subst, ◌∙◌}
use mathlib.Core.Bool.{Bool, true, false, cond}
use mathlib.Core.List.{List, [], ◌∷◌, ◌++◌, append-nil}
use Prim.Native.Nat.{ℕ, zero, suc, ◌*◌, ◌/◌, ◌≤◌}
use native.Mathlib.Omega.{arith}
use lib.IntN.{ℤ}
use lib.ListN.{length, take, drop}
use lib.Seq.{length-take-le}
use Rattle.laws.specs.Runs.{given}
use Rattle.laws.proofs.Lists.{drop-take-end}
use Rattle.buffers.specs.Buffers.{FillsIn, to_i16}
use Rattle.buffers.specs.declared.Shape.{Shape}
use Rattle.buffers.specs.declared.Shape.TheVariants.{Doubled, Sides}
use Rattle.replay_box.specs.Boxes.{ValidBox}
use Rattle.replay_box.specs.Frames.{frames, Fills}
use Rattle.replay_box.specs.declared.OpenBox.{OpenBox}
use Rattle.render_sounds.specs.Sounds.{Sounds, cells_of}

module _ (step : OpenBox → OpenBox) (left right : OpenBox → ℤ) where
  abbrev gives : OpenBox → List ℤ
  gives b = left b ∷ right b ∷ []

  pub pairs-length : (n : ℕ) (b : OpenBox) → length (given step gives n b) ≡ 2 * n
  unfolding given
  pairs-length zero b = refl
  pairs-length (suc n) b = omega (arith, pairs-length n (step b))

  -- the first 2 n cells were lent and came back as a part
  pub sounded : (n : ℕ) {b after : OpenBox} {filled : ℕ} {part : List ℤ} (cells : List ℤ)
      → 2 * n ≤ length cells
      → (let lent = take (2 * n) cells in FillsIn ValidBox step gives (length lent / 2) (length lent / 2 * 2) b lent (record { state = after; filled = filled }) part)
      → Sounds (given step gives n b) cells (part ++ drop (2 * n) cells) filled
  sounded n {b} {part = part} cells h f =
      let k : length (take (2 * n) cells) ≡ 2 * n = length-take-le (2 * n) cells h in
      let frames : 2 * n / 2 ≡ n = omega arith in
      let whole : n * 2 ≡ 2 * n = omega arith in
      let g = rw (k, frames, whole) at f in
      let same : part ≡ given step gives n b = g.content ∙ rw (drop-take-end (2 * n) cells, append-nil) in
      record { count = rw (pairs-length n b) g.count; content = rw (pairs-length n b, same) }

-- by the kind of frame
pub sounded-as : (stereo : Bool) (n : ℕ) (bytes : List ℕ) {shape : Shape} {b after : OpenBox} {filled : ℕ} {part : List ℤ} (cells : List ℤ)
    → 2 * n ≤ length cells
    → shape ≡ cond stereo Sides Doubled
    → Fills to_i16 shape bytes b (take (2 * n) cells) filled after part
    → Sounds (cells_of (cond stereo Sides Doubled) n bytes b) cells (part ++ drop (2 * n) cells) filled
sounded-as true n bytes {shape} {b} {after} {filled} {part} cells h e f =
    let g = frames bytes in
    sounded g.stereo (λ b. to_i16 (g.left b)) (λ b. to_i16 (g.right b)) n cells h (subst (λ (k : Shape). Fills to_i16 k bytes b (take (2 * n) cells) filled after part) e f)
sounded-as false n bytes {shape} {b} {after} {filled} {part} cells h e f =
    let g = frames bytes in
    sounded g.mono (λ b. to_i16 (g.pcm b)) (λ b. to_i16 (g.pcm b)) n cells h (subst (λ (k : Shape). Fills to_i16 k bytes b (take (2 * n) cells) filled after part) e f)
