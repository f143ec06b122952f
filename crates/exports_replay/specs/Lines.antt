-- "each line ended by a newline (the last may lack it)". Assumes nothing.
use Rattle.std.specs.Prelude.{ℕ, cond, List, [], ◌∷◌, ◌++◌, eqb}

-- a byte before the first of some lines
abbrev pub before : ℕ → List (List ℕ) → List (List ℕ)
before b [] = (b ∷ []) ∷ []
before b (l ∷ ls) = (b ∷ l) ∷ ls

-- bytes cut at newlines; after the last newline there is a line only if a byte stands there
unfoldable pub lines_of : List ℕ → List (List ℕ)
lines_of [] = []
lines_of (b ∷ bs) = cond (eqb b 10) ([] ∷ lines_of bs) (before b (lines_of bs))

-- lines, "each line ended by a newline"
unfoldable pub joined : List (List ℕ) → List ℕ
joined [] = []
joined (l ∷ ls) = l ++ (10 ∷ joined ls)
