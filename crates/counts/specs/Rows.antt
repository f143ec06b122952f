-- Inner: the counts for lists of one length as a row: at place j, how many have at least j requests at or above the priority
-- (Rows.row_counts says that they are what trying every list gives). high of the priorities are at or above it, low are below. Assumes nothing.
use Rattle.std.specs.Prelude.{ℕ, zero, suc, ◌+◌, ◌*◌, ◌≤◌, List, [], ◌∷◌, get_or, replicate}
use Rattle.laws.specs.Lists.{All}

-- One more request: a list has j of them at or above where the others have, or where it is one of the high and they have one fewer.
-- `before` is the count at the place before.
unfoldable pub longer_from : ℕ → ℕ → ℕ → List ℕ → List ℕ
longer_from high low before [] = []
longer_from high low before (x ∷ row) = (high * before + low * x) ∷ longer_from high low x row

-- every list has at least none: there both parts are the whole
abbrev pub longer : ℕ → ℕ → List ℕ → List ℕ
longer high low row = longer_from high low (get_or row 0 0) row

-- the one list of no request has none at or above
unfoldable pub row_of : ℕ → ℕ → ℕ → List ℕ
row_of high low zero = 1 ∷ replicate 8 0
row_of high low (suc n) = longer high low (row_of high low n)

-- a row from which the next one fits: four priorities, and lists of seven requests
pub record Small (high low : ℕ) (row : List ℕ) : Type 0 where
  pub few : high + low ≤ 4
  pub each : All (λ x. x ≤ 16384) row
