-- Falling order. Assumes nothing.
use Rattle.std.specs.Prelude.{ℕ, cond, List, [], ◌∷◌, leb}

-- p put behind all that are at least as high and before all that are lower
unfoldable pub inserted : ℕ → List ℕ → List ℕ
inserted p [] = p ∷ []
inserted p (x ∷ l) = cond (leb p x) (x ∷ inserted p l) (p ∷ x ∷ l)

-- "Falling order runs from the highest priority to the lowest, with a place for each voice and each request."
unfoldable pub falling : List ℕ → List ℕ
falling [] = []
falling (p ∷ l) = inserted p (falling l)
