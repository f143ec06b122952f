-- Document 02, T-13: "count the lists after which a sound request of priority p is refused. Count too the lists after which it is
-- accepted." Assumes nothing.
use Rattle.std.specs.Prelude.{ℕ, zero, suc, ◌+◌, ◌^◌, ◌≡◌, Bool, cond, not, ◌||◌, leb, ltb}
use mathlib.Core.List.{List, [], ◌∷◌, flat_map}
use Rattle.error.specs.Told.{Told, value, refused}
use Rattle.counts.specs.declared.Counts.{Counts}

-- "k priorities (0 to k − 1)": each of them before a list
unfoldable pub fronts : ℕ → List ℕ → List (List ℕ)
fronts zero l = []
fronts (suc q) l = (q ∷ l) ∷ fronts q l

-- "all lists of n sound requests", by their priorities
unfoldable pub lists : ℕ → ℕ → List (List ℕ)
lists k zero = [] ∷ []
lists k (suc n) = flat_map (fronts k) (lists k n)

-- how many of a list pass a test
unfoldable pub how_many : {A : Type 0} → (A → Bool) → List A → ℕ
how_many test [] = 0
how_many test (x ∷ l) = cond (test x) 1 0 + how_many test l

-- A request of priority p is refused after a list: at least N of the list have a priority of p or above. Demand 3 gives this, and
-- `counts_box` holds it to the box.
unfoldable pub turned_away : ℕ → ℕ → List ℕ → Bool
turned_away voices p l = leb voices (how_many (leb p) l)

-- every list is tried by a test that says whether the request is refused after it
unfoldable pub counted_by : (List ℕ → Bool) → ℕ → ℕ → Counts
counted_by test k n = record { refused = how_many test (lists k n); accepted = how_many (λ l. not (test l)) (lists k n) }

-- "22: k outside 1..4, n above 8, N above 16, or p not below k"
unfoldable pub uncounted : ℕ → ℕ → ℕ → ℕ → Bool
uncounted voices k n p = ltb k 1 || ltb 4 k || ltb 8 n || ltb 16 voices || leb k p

unfoldable pub counted : ℕ → ℕ → ℕ → ℕ → Told Counts
counted voices k n p = cond (uncounted voices k n p) (refused 22) (value (counted_by (turned_away voices p) k n))

-- "The two add up to k to the power n"
pub record AddUp (k n : ℕ) (c : Counts) : Type 0 where
  pub all : c.refused + c.accepted ≡ k ^ n
