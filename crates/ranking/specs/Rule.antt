-- Document 01's rule for handing out voices, and document 02's, as a choice of a place. Assumes nothing.
use Rattle.std.specs.Prelude.{ℕ, suc, Bool, true, cond, not, ◌&&◌, ◌||◌, List, [], ◌∷◌, leb, ltb, eqb}
use Rattle.std.proofs.Math.Option.{Option, none, some, map, or_else}

module _ {Voice : Type 0} where
  -- the first place whose voice passes the test
  unfoldable pub first_where : (Voice → Bool) → List Voice → Option ℕ
  first_where test [] = none
  first_where test (v ∷ vs) = cond (test v) (some 0) (map suc (first_where test vs))

  -- none has a priority below p
  unfoldable pub none_below : (Voice → ℕ) → ℕ → List Voice → Bool
  none_below priority p [] = true
  none_below priority p (v ∷ vs) = leb p (priority v) && none_below priority p vs

  -- "the first inaudible voice"
  unfoldable pub first_free : (Voice → Bool) → List Voice → Option ℕ
  first_free audible vs = first_where (λ v. not (audible v)) vs

  -- "the first voice of lowest priority if that is strictly below the request"
  unfoldable pub first_lowest : (Voice → ℕ) → List Voice → ℕ → Option ℕ
  first_lowest priority vs p = first_where (λ v. none_below priority (priority v) vs && ltb (priority v) p) vs

  -- "the first inaudible voice; else, under LowestPriorityOldest, the first voice of lowest priority if that is strictly below the
  -- request; else none"
  unfoldable pub lowest_priority : (Voice → Bool) → (Voice → ℕ) → List Voice → ℕ → Option ℕ
  lowest_priority audible priority vs p = or_else (first_free audible vs) (first_lowest priority vs p)

  -- "FreeChannelOnly never takes one."
  unfoldable pub free_only : (Voice → Bool) → List Voice → ℕ → Option ℕ
  free_only audible vs p = first_free audible vs

  -- ---- document 02

  -- of the voices of v's priority none is older
  unfoldable pub none_older : (Voice → ℕ) → (Voice → ℕ) → Voice → List Voice → Bool
  none_older priority age v [] = true
  none_older priority age v (w ∷ vs) = (not (eqb (priority w) (priority v)) || leb (age v) (age w)) && none_older priority age v vs

  -- "Among voices of equal lowest priority the oldest goes", if it is strictly below the request
  unfoldable pub oldest_lowest : (Voice → ℕ) → (Voice → ℕ) → List Voice → ℕ → Option ℕ
  oldest_lowest priority age vs p = first_where (λ v. (none_below priority (priority v) vs && none_older priority age v vs) && ltb (priority v) p) vs

  -- the first inaudible voice; else that one; else none
  unfoldable pub lowest_oldest : (Voice → Bool) → (Voice → ℕ) → (Voice → ℕ) → List Voice → ℕ → Option ℕ
  lowest_oldest audible priority age vs p = or_else (first_free audible vs) (oldest_lowest priority age vs p)
