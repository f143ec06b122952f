-- Answers to requests for samples, one after another. Assumes nothing.
use Rattle.std.specs.Prelude.{◌≡◌, ℕ, List, [], ◌∷◌, ◌++◌, length, drop, ℤ, Option, Some, None}

-- the samples among them, in their order
unfoldable pub heard : List (Option ℤ) → List ℤ
heard [] = []
heard (Some s ∷ gs) = s ∷ heard gs
heard (None ∷ gs) = heard gs

-- once none is given, none is given from then on
abbrev pub Stops : List (Option ℤ) → Type 0
Stops [] = Unit {0}
Stops (Some s ∷ gs) = Stops gs
Stops (None ∷ gs) = heard gs ≡ []

-- a block's answers: how many are samples, and the cells that took these, from the front on; the cells after them stay
pub record Filled (answers : List (Option ℤ)) (cells : List ℤ) (given : ℕ) (filled : List ℤ) : Type 0 where
  pub count : given ≡ length (heard answers)
  pub taken : filled ≡ heard answers ++ drop (length (heard answers)) cells
