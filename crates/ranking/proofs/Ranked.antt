-- A rank for each voice, 0 for one that is inaudible and else one above its priority, makes the rule one search: the first of lowest rank
-- below a bound. Assumes nothing.
use Prim.Native.Nat.{ℕ, suc, ◌≤◌, ◌<◌}
use native.Mathlib.Omega.{arith}
use mathlib.Core.Path.{◌≡◌, refl, ap, sym, ◌∙◌}
use mathlib.Core.Logic.{⊎_elim}
use mathlib.Core.Bool.{Bool, true, false, cond, ◌&&◌, true≢false}
use mathlib.Core.List.{List, [], ◌∷◌, map}
use mathlib.Core.Option
use mathlib.Core.Option.{Option, none, some, or_else}
use lib.Dec.{ltb}
use borrow.Author.Tests.{le-leb}
use Rattle.ranking.specs.Rule.{first_where, none_below, first_free, first_lowest, lowest_priority}
use Rattle.ranking.proofs.Falling.{le-or-gt}
use Rattle.ranking.proofs.Rule.{lowest-on, lowest-here, lowest-below, lowest-none, none-lowest}

-- the first of two, where the places of both are moved on
or-moved : (a b : Option ℕ) → Option.map suc (or_else a b) ≡ or_else (Option.map suc a) (Option.map suc b)
unfolding or_else
or-moved none b = refl
or-moved (some i) b = refl

or-thrice : (a b c : Option ℕ) → or_else (or_else a b) c ≡ or_else a (or_else b c)
unfolding or_else
or-thrice none b c = refl
or-thrice (some i) b c = refl

or_else_none : (other : Option ℕ) → other ≡ or_else (Option.map suc none) other
unfolding or_else
or_else_none other = refl

or-found : (o other : Option ℕ) → (o ≡ none → ⊥) → Option.map suc o ≡ or_else (Option.map suc o) other
unfolding or_else
or-found none other h = absurd (h refl)
or-found (some i) other h = refl

module _ {Voice : Type 0} (priority : Voice → ℕ) where
  -- a first voice that is below k: one after it that is lower, else itself
  lowest-first : (v : Voice) (vs : List Voice) (k : ℕ) → priority v < k
      → first_lowest priority (v ∷ vs) k ≡ or_else (Option.map suc (first_lowest priority vs (priority v))) (some 0)
  lowest-first v vs k h = go (none_below priority (priority v) vs) refl
    where
      go : (t : Bool) → none_below priority (priority v) vs ≡ t
          → first_lowest priority (v ∷ vs) k ≡ or_else (Option.map suc (first_lowest priority vs (priority v))) (some 0)
      go true e = rw (lowest-here priority v vs k h e, lowest-none priority (priority v) vs e) (or_else_none (some 0))
      go false e =
          lowest-below priority v vs k h e
          ∙ or-found (first_lowest priority vs (priority v)) (some 0) (λ g. true≢false (sym (none-lowest priority (priority v) vs g) ∙ e))

module _ {Voice : Type 0} where
  where-mapped : {A : Type 0} (f : Voice → A) (test : A → Bool) (vs : List Voice) → first_where test (map f vs) ≡ first_where (λ v. test (f v)) vs
  unfolding first_where
  where-mapped f test [] = refl
  where-mapped f test (v ∷ vs) = rw (where-mapped f test vs)

  none-mapped : (f : Voice → ℕ) (p : ℕ) (vs : List Voice) → none_below (λ x. x) p (map f vs) ≡ none_below f p vs
  unfolding none_below
  none-mapped f p [] = refl
  none-mapped f p (v ∷ vs) = rw (none-mapped f p vs)

  where-tests : (s t : Voice → Bool) (vs : List Voice) → ((v : Voice) → s v ≡ t v) → first_where s vs ≡ first_where t vs
  unfolding first_where
  where-tests s t [] h = refl
  where-tests s t (v ∷ vs) h = rw (h v, where-tests s t vs h)

  -- a search among the ranks is the search by rank
  pub lowest-mapped : (f : Voice → ℕ) (vs : List Voice) (k : ℕ) → first_lowest (λ x. x) (map f vs) k ≡ first_lowest f vs k
  unfolding first_lowest
  lowest-mapped f vs k =
      where-mapped f (λ x. none_below (λ x. x) x (map f vs) && ltb x k) vs
      ∙ where-tests (λ v. none_below (λ x. x) (f v) (map f vs) && ltb (f v) k) (λ v. none_below f (f v) vs && ltb (f v) k) vs (λ v. rw (none-mapped f (f v) vs))

module _ {Voice : Type 0} (audible : Voice → Bool) (priority : Voice → ℕ) where
  abbrev rank : Voice → ℕ
  rank v = cond (audible v) (suc (priority v)) 0

  none-below-zero : (vs : List Voice) → none_below rank 0 vs ≡ true
  unfolding none_below
  none-below-zero [] = refl
  none-below-zero (v ∷ vs) = rw (le-leb 0 (rank v) (omega arith)) (none-below-zero vs)

  module _ (v : Voice) (vs : List Voice) where
    free-first : audible v ≡ false → first_free audible (v ∷ vs) ≡ some 0
    unfolding first_free first_where
    free-first e = rw e

    free-later : audible v ≡ true → first_free audible (v ∷ vs) ≡ Option.map suc (first_free audible vs)
    unfolding first_free first_where
    free-later e = rw e

    -- an inaudible first voice is found below any bound
    rank-first : (k : ℕ) → audible v ≡ false → first_lowest rank (v ∷ vs) (suc k) ≡ some 0
    rank-first k e =
        let z : rank v ≡ 0 = rw e in
        lowest-here rank v vs (suc k) (rw z (omega arith)) (rw z (none-below-zero vs))

  rank-none : (k : ℕ) → first_lowest rank [] k ≡ none
  unfolding none_below
  rank-none k = lowest-none rank k [] refl

  free-none : first_free audible [] ≡ none
  unfolding first_free first_where
  free-none = refl

  -- below 1 are the inaudible ones
  pub ranked-free : (vs : List Voice) → first_lowest rank vs 1 ≡ first_free audible vs
  ranked-free [] = rank-none 1 ∙ sym free-none
  ranked-free (v ∷ vs) = go (audible v) refl (ranked-free vs)
    where
      go : (t : Bool) → audible v ≡ t → first_lowest rank vs 1 ≡ first_free audible vs → first_lowest rank (v ∷ vs) 1 ≡ first_free audible (v ∷ vs)
      go false e ih = rank-first v vs 0 e ∙ sym (free-first v vs e)
      go true e ih =
          let z : rank v ≡ suc (priority v) = rw e in
          lowest-on rank v vs 1 (rw z (omega arith)) ∙ ap (Option.map suc) ih ∙ sym (free-later v vs e)

  low-none : (p : ℕ) → first_lowest priority [] p ≡ none
  unfolding none_below
  low-none p = lowest-none priority p [] refl

  -- what is to be shown of the voices after v, for every bound
  abbrev Later : List Voice → Type 0
  Later vs = (p : ℕ) → first_lowest rank vs (suc p) ≡ or_else (first_free audible vs) (first_lowest priority vs p)

  module _ (v : Voice) (vs : List Voice) (p : ℕ) (z : rank v ≡ suc (priority v)) (later : Later vs) where
    below : priority v < p → first_lowest rank (v ∷ vs) (suc p) ≡ or_else (Option.map suc (first_free audible vs)) (first_lowest priority (v ∷ vs) p)
    below h =
        lowest-first rank v vs (suc p) (rw z (omega arith))
        ∙ rw (z, later (priority v), or-moved (first_free audible vs) (first_lowest priority vs (priority v)), lowest-first priority v vs p h)
        (or-thrice (Option.map suc (first_free audible vs)) (Option.map suc (first_lowest priority vs (priority v))) (some 0))

    above : p ≤ priority v → first_lowest rank (v ∷ vs) (suc p) ≡ or_else (Option.map suc (first_free audible vs)) (first_lowest priority (v ∷ vs) p)
    above h =
        lowest-on rank v vs (suc p) (rw z (omega arith))
        ∙ rw (later p, lowest-on priority v vs p h) (or-moved (first_free audible vs) (first_lowest priority vs p))

  free-or-lowest : (vs : List Voice) → Later vs
  unfolding or_else
  free-or-lowest [] p = rw (rank-none (suc p), free-none, low-none p)
  free-or-lowest (v ∷ vs) p = go (audible v) refl (free-or-lowest vs)
    where
      go : (t : Bool) → audible v ≡ t → Later vs → first_lowest rank (v ∷ vs) (suc p) ≡ or_else (first_free audible (v ∷ vs)) (first_lowest priority (v ∷ vs) p)
      go false e later = rw (rank-first v vs p e, free-first v vs e)
      go true e later =
          let z : rank v ≡ suc (priority v) = rw e in
          rw (free-later v vs e)
          (⊎_elim (λ (h : p ≤ priority v). above v vs p z later h) (λ (h : priority v < p). below v vs p z later h) (le-or-gt p (priority v)))

  -- below one above p: an inaudible one, else the first of lowest priority below p
  pub ranked-lowest : (vs : List Voice) (p : ℕ) → first_lowest rank vs (suc p) ≡ lowest_priority audible priority vs p
  unfolding lowest_priority
  ranked-lowest vs p = free-or-lowest vs p
