-- The rule as a loop over the first n voices computes it: free_from looks from place i on for the first inaudible voice, and lowest_from
-- for one below k, the lowest so far, with the answer so far. `put` makes the loop's answer from a place or none. Assumes nothing.
use Prim.Native.Nat.{ℕ, suc, ◌+◌, ◌≤◌, ◌<◌}
use native.Mathlib.Nat.{zero-add, add-zero, add-suc, suc-add}
use native.Mathlib.Numerals.{add-one}
use mathlib.Core.Path.{◌≡◌, refl, ap, sym, ◌∙◌}
use mathlib.Core.Logic.{⊎_elim}
use mathlib.Core.Bool.{Bool, true, false, cond, not, true≢false}
use mathlib.Core.List.{List, [], ◌∷◌}
use mathlib.Core.Option.{Option, none, some, map}
use lib.ListN.{length, get_or, take, drop}
use lib.Dec.{ltb}
use borrow.Author.Tests.{lt-ltb, le-ltb}
use Rattle.laws.proofs.Lists.{drop-take-cons, drop-take-end}
use Rattle.ranking.specs.Rule.{first_where, none_below, first_free, first_lowest}
use Rattle.ranking.proofs.Falling.{le-or-gt}
use Rattle.ranking.proofs.Rule.{lowest-on, lowest-here, lowest-below, lowest-none, none-lowest}

-- a place counted from i on
shifted : ℕ → Option ℕ → Option ℕ
shifted i o = map (λ (j : ℕ). i + j) o

shifted-suc : (i : ℕ) (o : Option ℕ) → shifted i (map suc o) ≡ shifted (suc i) o
unfolding shifted
shifted-suc i none = refl
shifted-suc i (some j) = rw (add-suc, ← suc-add)

shifted-here : (i : ℕ) → shifted i (some 0) ≡ some i
unfolding shifted
shifted-here i = rw add-zero

shifted-zero : (o : Option ℕ) → shifted 0 o ≡ o
unfolding shifted
shifted-zero none = refl
shifted-zero (some j) = rw zero-add

module _ {Answer : Type 0} (put : Option ℕ → Answer) where
  -- the answer so far, where none is found
  or_best : Answer → Option ℕ → Answer
  or_best best none = best
  or_best best (some i) = put (some i)

  or_best-found : (a c : Answer) (i : ℕ) (o : Option ℕ) → (o ≡ none → ⊥) → or_best a (shifted i o) ≡ or_best c (shifted i o)
  unfolding or_best shifted
  or_best-found a c i none h = absurd (h refl)
  or_best-found a c i (some j) h = refl

  or_best-none : (o : Option ℕ) → or_best (put none) o ≡ put o
  unfolding or_best
  or_best-none none = refl
  or_best-none (some i) = refl

module _ {Voice Answer : Type 0} (put : Option ℕ → Answer) where
  unfoldable pub free_from : (Voice → Bool) → ℕ → List Voice → Answer
  free_from audible i [] = put none
  free_from audible i (v ∷ vs) = cond (audible v) (free_from audible (suc i) vs) (put (some i))

  unfoldable pub lowest_from : (Voice → ℕ) → Answer → ℕ → ℕ → List Voice → Answer
  lowest_from priority best k i [] = best
  lowest_from priority best k i (v ∷ vs) =
      cond (ltb (priority v) k) (lowest_from priority (put (some i)) (priority v) (suc i) vs) (lowest_from priority best k (suc i) vs)

  free-from : (audible : Voice → Bool) (i : ℕ) (vs : List Voice) → free_from audible i vs ≡ put (shifted i (first_free audible vs))
  unfolding free_from first_free first_where shifted
  free-from audible i [] = refl
  free-from audible i (v ∷ vs) = go (audible v) (free-from audible (suc i) vs)
    where
      go : (t : Bool) → free_from audible (suc i) vs ≡ put (shifted (suc i) (first_free audible vs))
          → cond t (free_from audible (suc i) vs) (put (some i)) ≡ put (shifted i (cond (not t) (some 0) (map suc (first_free audible vs))))
      go true h = h ∙ ap put (sym (shifted-suc i (first_free audible vs)))
      go false h = ap put (sym (shifted-here i))

  -- the loop from the first place on finds the first inaudible voice
  pub free-scan : (audible : Voice → Bool) (vs : List Voice) → free_from audible 0 vs ≡ put (first_free audible vs)
  free-scan audible vs = free-from audible 0 vs ∙ ap put (shifted-zero (first_free audible vs))

  module _ (priority : Voice → ℕ) where
    lowest-from : (best : Answer) (k i : ℕ) (vs : List Voice) → lowest_from priority best k i vs ≡ or_best put best (shifted i (first_lowest priority vs k))
    unfolding lowest_from none_below or_best shifted
    lowest-from best k i [] = rw (lowest-none priority k [] refl)
    lowest-from best k i (v ∷ vs) =
        ⊎_elim
        (λ (h : k ≤ priority v).
        rw (le-ltb (priority v) k h, lowest-on priority v vs k h, shifted-suc i (first_lowest priority vs k)) (lowest-from best k (suc i) vs))
        (λ (h : priority v < k). rw (lt-ltb (priority v) k h) (lowest-from (put (some i)) (priority v) (suc i) vs ∙ go h (none_below priority (priority v) vs) refl))
        (le-or-gt k (priority v))
      where
        go : priority v < k → (t : Bool) → none_below priority (priority v) vs ≡ t
            → or_best put (put (some i)) (shifted (suc i) (first_lowest priority vs (priority v))) ≡ or_best put best (shifted i (first_lowest priority (v ∷ vs) k))
        go h true e = rw (lowest-here priority v vs k h e, lowest-none priority (priority v) vs e, shifted-here i)
        go h false e =
            rw (lowest-below priority v vs k h e, shifted-suc i (first_lowest priority vs (priority v)))
            (or_best-found put (put (some i)) best (suc i) (first_lowest priority vs (priority v)) (λ g. true≢false (sym (none-lowest priority (priority v) vs g) ∙ e)))

    -- and the first of lowest priority below k
    pub lowest-scan : (k : ℕ) (vs : List Voice) → lowest_from priority (put none) k 0 vs ≡ put (first_lowest priority vs k)
    lowest-scan k vs =
        lowest-from (put none) k 0 vs ∙ ap (or_best put (put none)) (shifted-zero (first_lowest priority vs k)) ∙ or_best-none put (first_lowest priority vs k)

-- ---- one turn of a loop over the first n of vs, at place i, and its end
module _ {Voice Answer : Type 0} (put : Option ℕ → Answer) (audible : Voice → Bool) (n : ℕ) (vs : List Voice) where
  pub free-end : free_from put audible n (drop n (take n vs)) ≡ put none
  unfolding free_from
  free-end = rw (drop-take-end n vs)

  module _ (i : ℕ) (d : Voice) (h : i < n) (k : n ≤ length vs) where
    pub free_on : audible (get_or vs i d) ≡ true → free_from put audible i (drop i (take n vs)) ≡ free_from put audible (i + 1) (drop (i + 1) (take n vs))
    unfolding free_from
    free_on e = rw (drop-take-cons n i vs d h k, e, add-one)

    pub free-here : audible (get_or vs i d) ≡ false → free_from put audible i (drop i (take n vs)) ≡ put (some i)
    unfolding free_from
    free-here e = rw (drop-take-cons n i vs d h k, e)

module _ {Voice Answer : Type 0} (put : Option ℕ → Answer) (priority : Voice → ℕ) (best : Answer) (low n : ℕ) (vs : List Voice) where
  pub lowest-end : lowest_from put priority best low n (drop n (take n vs)) ≡ best
  unfolding lowest_from
  lowest-end = rw (drop-take-end n vs)

  module _ (i : ℕ) (d : Voice) (h : i < n) (k : n ≤ length vs) where
    pub lower-here : priority (get_or vs i d) < low
        → lowest_from put priority best low i (drop i (take n vs)) ≡ lowest_from put priority (put (some i)) (priority (get_or vs i d)) (i + 1) (drop (i + 1) (take n vs))
    unfolding lowest_from
    lower-here l = rw (drop-take-cons n i vs d h k, lt-ltb (priority (get_or vs i d)) low l, add-one)

    pub lower-on : low ≤ priority (get_or vs i d)
        → lowest_from put priority best low i (drop i (take n vs)) ≡ lowest_from put priority best low (i + 1) (drop (i + 1) (take n vs))
    unfolding lowest_from
    lower-on l = rw (drop-take-cons n i vs d h k, le-ltb (priority (get_or vs i d)) low l, add-one)
