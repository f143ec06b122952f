-- What is said of the elements of a list. Assumes nothing.
use Rattle.std.specs.Prelude.{ℕ, Bool, cond, List, [], ◌∷◌, ◌++◌, map, take, drop}

module _ {A : Type 0} where
  -- P holds of each
  abbrev pub All : (A → Type 0) → List A → Type 0
  All P [] = Unit {0}
  All P (x ∷ l) = P x × All P l

  -- the first n replaced by f of them; the rest stays
  abbrev pub map_first : (A → A) → ℕ → List A → List A
  map_first f n l = map f (take n l) ++ drop n l

  -- those that pass the test, in their order
  unfoldable pub only : (A → Bool) → List A → List A
  only test [] = []
  only test (x ∷ l) = cond (test x) (x ∷ only test l) (only test l)
