-- Inner: a block of frames on its way to cells. Assumes nothing.
use Rattle.std.specs.Prelude.{ℕ, ◌*◌, ◌≤◌, ◌<◌, ◌≡◌, List, [], ◌∷◌, map, ℤ, length, take}
use Rattle.laws.specs.Runs.{given}
use Rattle.output.specs.Duty.{mapped}
use Rattle.output.specs.declared.Mapped.{Mapped}
use Rattle.output.specs.declared.PwmMapper.{PwmMapper}
use Rattle.buffers.specs.Buffers.{to_i8, to_u12, to_u16}
use Rattle.buffers.specs.Shapes.{wide}
use Rattle.buffers.specs.declared.Level.{Level}
use Rattle.buffers.specs.declared.Level.TheVariants.{Duty, U12, U16}
use Rattle.buffers.specs.declared.Shape.{Shape}
use Rattle.buffers.specs.declared.Shape.TheVariants.{Once, Doubled, Sides}

-- left before right, each scaled
unfoldable pub pairs : {A : Type 0} → (ℤ → A) → List ℤ → List ℤ → List A
pairs scale [] rs = []
pairs scale (l ∷ ls) [] = []
pairs scale (l ∷ ls) (r ∷ rs) = scale l ∷ scale r ∷ pairs scale ls rs

-- a sample at a level: its cell, and the mapper after it
abbrev pub leveled : Level → ℕ → PwmMapper → ℤ → Mapped
leveled Duty period p s = mapped p s period
leveled U12 period p s = record { mapper = p; duty = to_u12 s }
leveled U16 period p s = record { mapper = p; duty = to_u16 s }

-- samples one after another: the mapper after them, and their cells
unfoldable pub mapper_over : Level → ℕ → PwmMapper → List ℤ → PwmMapper
mapper_over level period p [] = p
mapper_over level period p (s ∷ l) = mapper_over level period (leveled level period p s).mapper l

unfoldable pub levels_over : Level → ℕ → PwmMapper → List ℤ → List ℕ
levels_over level period p [] = []
levels_over level period p (s ∷ l) = let d = leveled level period p s in d.duty ∷ levels_over level period d.mapper l

-- so many frames have room in the cells, 256 at most; none only where there is no room for a frame
pub record Span (shape : Shape) (room n : ℕ) : Type 0 where
  pub few : n ≤ 256
  pub fits : n * wide shape ≤ room
  pub none : n ≡ 0 → room < wide shape

-- the samples of n frames, side by side as the shape has them
abbrev pub laid : Shape → List ℤ → List ℤ → List ℤ
laid Once ls rs = map to_i8 ls
laid Doubled ls rs = pairs to_i8 ls ls
laid Sides ls rs = pairs to_i8 ls rs

pub record Laid (shape : Shape) (n cells : ℕ) (left right samples : List ℤ) : Type 0 where
  pub count : cells ≡ n * wide shape
  pub gave : take cells samples ≡ laid shape (take n left) (take n right)
  pub room : length samples ≡ 512

-- n frames of a box: what its rows hold
abbrev pub row : {State : Type 0} → (State → State) → (State → ℤ) → ℕ → State → List ℤ
row step sample n s = given step (λ s. sample s ∷ []) n s
