-- Document 01's rule keeps the laws of an allocation. Assumes nothing.
use Prim.Native.Nat.{ℕ, suc, ◌≤◌, ◌<◌}
use native.Mathlib.Omega.{arith}
use mathlib.Core.Path.{◌≡◌, refl, ap, sym, ◌∙◌}
use mathlib.Core.Logic.{⊎_elim}
use mathlib.Core.Bool.{Bool, true, false, cond, not, ◌&&◌, false≢true, true≢false}
use mathlib.Core.List.{List, [], ◌∷◌}
use mathlib.Core.Option.{Option, none, some, map, or_else, some-ne-none}
use lib.ListN.{length, get_elem?}
use lib.Dec.{leb, ltb}
use borrow.Author.Tests.{le-leb, lt-ltb, le-ltb, leb-true, ltb-true, not-true, not-false}
use Rattle.laws.specs.Lists.{All}
use Rattle.ranking.specs.Demand.{Allowed, free, taken, refused}
use Rattle.ranking.specs.Rule.{first_where, none_below, first_free, first_lowest, lowest_priority}
use Rattle.laws.proofs.Lists.{all-imp}
use Rattle.ranking.proofs.Places.{at_length}
use Rattle.ranking.proofs.Falling.{le-or-gt}

pub and-true : (s t : Bool) → (s && t) ≡ true → (s ≡ true) × (t ≡ true)
and-true true true e = (refl, refl)
and-true true false e = absurd (false≢true e)
and-true false t e = absurd (false≢true e)

and-false : (t : Bool) → (t && false) ≡ false
and-false true = refl
and-false false = refl

module _ {Voice : Type 0} where
  where-here : (test : Voice → Bool) (v : Voice) (vs : List Voice) → test v ≡ true → first_where test (v ∷ vs) ≡ some 0
  unfolding first_where
  where-here test v vs e = rw e

  where-on : (test : Voice → Bool) (v : Voice) (vs : List Voice) → test v ≡ false → first_where test (v ∷ vs) ≡ map suc (first_where test vs)
  unfolding first_where
  where-on test v vs e = rw e

  where-same : (s t : Voice → Bool) (vs : List Voice) → ((v : Voice) → s v ≡ t v) → first_where s vs ≡ first_where t vs
  unfolding first_where
  where-same s t [] h = refl
  where-same s t (v ∷ vs) h = rw (h v, where-same s t vs h)

  -- what is found passes, and where nothing is found nothing does
  unfoldable pub Found : (Voice → Bool) → List Voice → Option ℕ → Type 0
  Found test vs none = All (λ v. test v ≡ false) vs
  Found test vs (some i) = (v : Voice) × (get_elem? vs i ≡ some v) × (test v ≡ true)

  found-on : (test : Voice → Bool) (v : Voice) (vs : List Voice) (o : Option ℕ) → test v ≡ false → Found test vs o → Found test (v ∷ vs) (map suc o)
  unfolding Found
  found-on test v vs none e h = (e, h)
  found-on test v vs (some i) e h = h

  pub found : (test : Voice → Bool) (vs : List Voice) → Found test vs (first_where test vs)
  unfolding Found first_where
  found test [] = tt
  found test (v ∷ vs) = go (test v) refl (found test vs)
    where
      go : (t : Bool) → test v ≡ t → Found test vs (first_where test vs) → Found test (v ∷ vs) (cond t (some 0) (map suc (first_where test vs)))
      go true e h = (v, refl, e)
      go false e h = found-on test v vs (first_where test vs) e h

module _ {Voice : Type 0} (priority : Voice → ℕ) where
  pub none-below-all : (k : ℕ) (vs : List Voice) → none_below priority k vs ≡ true → All (λ w. k ≤ priority w) vs
  unfolding none_below
  none-below-all k [] e = tt
  none-below-all k (v ∷ vs) e =
      let h = and-true (leb k (priority v)) (none_below priority k vs) e in
      (leb-true k (priority v) h.0, none-below-all k vs h.1)

  none-below-less : (j k : ℕ) (vs : List Voice) → j ≤ k → none_below priority k vs ≡ true → none_below priority j vs ≡ true
  unfolding none_below
  none-below-less j k [] l e = refl
  none-below-less j k (v ∷ vs) l e =
      let h = and-true (leb k (priority v)) (none_below priority k vs) e in
      let g = leb-true k (priority v) h.0 in
      rw (le-leb j (priority v) (omega arith)) (none-below-less j k vs l h.1)

  module _ (v : Voice) (vs : List Voice) (k : ℕ) where
    -- the test of w by all voices, and by those after v
    abbrev whole : Voice → Bool
    whole w = leb (priority w) (priority v) && none_below priority (priority w) vs && ltb (priority w) k

    abbrev rest : ℕ → Voice → Bool
    rest j w = none_below priority (priority w) vs && ltb (priority w) j

    -- a first voice that is not below k is passed over
    pub lowest-on : k ≤ priority v → first_lowest priority (v ∷ vs) k ≡ map suc (first_lowest priority vs k)
    unfolding first_lowest none_below
    lowest-on h = where-on whole v vs (rw (le-ltb (priority v) k h, and-false _)) ∙ ap (map suc) (where-same whole (rest k) vs same)
      where
        same : (w : Voice) → whole w ≡ rest k w
        same w =
            ⊎_elim
            (λ (g : k ≤ priority w). simp (le-ltb (priority w) k g, and-false))
            (λ (g : priority w < k). rw (le-leb (priority w) (priority v) (omega arith)))
            (le-or-gt k (priority w))

    -- one that is below k, and than which none is lower, is found
    pub lowest-here : priority v < k → none_below priority (priority v) vs ≡ true → first_lowest priority (v ∷ vs) k ≡ some 0
    unfolding first_lowest none_below
    lowest-here h e = where-here whole v vs (rw (le-leb (priority v) (priority v) (omega arith), e, lt-ltb (priority v) k h))

    -- else one is found that is below it
    pub lowest-below : priority v < k → none_below priority (priority v) vs ≡ false
        → first_lowest priority (v ∷ vs) k ≡ map suc (first_lowest priority vs (priority v))
    unfolding first_lowest none_below
    lowest-below h e =
        where-on whole v vs (rw (e, and-false _))
        ∙ ap (map suc) (where-same whole (rest (priority v)) vs (λ w. same w (none_below priority (priority w) vs) refl))
      where
        same : (w : Voice) (t : Bool) → none_below priority (priority w) vs ≡ t → whole w ≡ rest (priority v) w
        same w false g = rw (g, and-false _)
        same w true g =
            ⊎_elim
            (λ (l : priority v ≤ priority w). absurd (true≢false (sym (none-below-less (priority v) (priority w) vs l g) ∙ e)))
            (λ (l : priority w < priority v).
            rw (g, le-leb (priority w) (priority v) (omega arith), lt-ltb (priority w) k (omega arith), lt-ltb (priority w) (priority v) l))
            (le-or-gt (priority v) (priority w))

  lowest-of-none : (k : ℕ) → first_lowest priority [] k ≡ none
  unfolding first_lowest first_where
  lowest-of-none k = refl

  -- none is found exactly where none is below k
  pub lowest-none : (k : ℕ) (vs : List Voice) → none_below priority k vs ≡ true → first_lowest priority vs k ≡ none
  unfolding none_below
  lowest-none k [] e = lowest-of-none k
  lowest-none k (v ∷ vs) e =
      let h = and-true (leb k (priority v)) (none_below priority k vs) e in
      rw (lowest-on v vs k (leb-true k (priority v) h.0), lowest-none k vs h.1)

  pub none-lowest : (k : ℕ) (vs : List Voice) → first_lowest priority vs k ≡ none → none_below priority k vs ≡ true
  unfolding none_below
  none-lowest k [] e = refl
  none-lowest k (v ∷ vs) e =
      ⊎_elim
      (λ (h : k ≤ priority v). rw (le-leb k (priority v) h) (none-lowest k vs (unmapped (first_lowest priority vs k) (rw (lowest-on v vs k h) at e))))
      (λ (h : priority v < k). absurd (go h (none_below priority (priority v) vs) refl (none-lowest (priority v) vs)))
      (le-or-gt k (priority v))
    where
      unmapped : (o : Option ℕ) → map suc o ≡ none → o ≡ none
      unmapped none g = refl
      unmapped (some i) g = absurd (some-ne-none (suc i) g)

      go : priority v < k → (t : Bool) → none_below priority (priority v) vs ≡ t
          → (first_lowest priority vs (priority v) ≡ none → none_below priority (priority v) vs ≡ true) → ⊥
      go h true g ih = some-ne-none 0 (rw (lowest-here v vs k h g) at e)
      go h false g ih = true≢false (sym (ih (unmapped (first_lowest priority vs (priority v)) (rw (lowest-below v vs k h g) at e))) ∙ g)

  found-lowest : (k : ℕ) (vs : List Voice) (i : ℕ) → first_lowest priority vs k ≡ some i
      → (v : Voice) × (get_elem? vs i ≡ some v) × All (λ w. priority v ≤ priority w) vs × (priority v < k)
  unfolding first_lowest Found
  found-lowest k vs i e = go (rw e at (found test vs))
    where
      test : Voice → Bool
      test v = none_below priority (priority v) vs && ltb (priority v) k

      go : Found test vs (some i) → (v : Voice) × (get_elem? vs i ≡ some v) × All (λ w. priority v ≤ priority w) vs × (priority v < k)
      go f =
          let v = f.0 in
          let h = and-true (none_below priority (priority v) vs) (ltb (priority v) k) f.2 in
          (v, f.1, none-below-all (priority v) vs h.0, ltb-true (priority v) k h.1)

-- a place that is found is one of a voice
module _ {Voice : Type 0} where
  pub free-place : (audible : Voice → Bool) (vs : List Voice) (i : ℕ) → first_free audible vs ≡ some i → i < length vs
  unfolding first_free Found
  free-place audible vs i e = go (rw e at (found (λ v. not (audible v)) vs))
    where
      go : Found (λ v. not (audible v)) vs (some i) → i < length vs
      go f = at_length vs i f.0 f.1

  pub lowest-place : (priority : Voice → ℕ) (k : ℕ) (vs : List Voice) (i : ℕ) → first_lowest priority vs k ≡ some i → i < length vs
  lowest-place priority k vs i e = let f = found-lowest priority k vs i e in at_length vs i f.0 f.1

module _ {Voice : Type 0} (audible : Voice → Bool) (priority : Voice → ℕ) (vs : List Voice) (p : ℕ) where
  allowed-lowest : All (λ v. audible v ≡ true) vs → (o : Option ℕ) → first_lowest priority vs p ≡ o → Allowed audible priority vs p o
  allowed-lowest h none e = refused h (none-below-all priority p vs (none-lowest priority p vs e))
  allowed-lowest h (some i) e = let f = found-lowest priority p vs i e in taken h f.1 f.2 f.3

  -- "the first inaudible voice; else .. the first voice of lowest priority if that is strictly below the request; else none"
  pub lowest-allowed : Allowed audible priority vs p (lowest_priority audible priority vs p)
  unfolding lowest_priority first_free or_else Found
  lowest-allowed = go (first_where (λ v. not (audible v)) vs) (found (λ v. not (audible v)) vs)
    where
      go : (o : Option ℕ) → Found (λ v. not (audible v)) vs o → Allowed audible priority vs p (or_else o (first_lowest priority vs p))
      go none h = allowed-lowest (all-imp (λ v. not (audible v) ≡ false) (λ v. audible v ≡ true) (λ v. not-false (audible v)) vs h) (first_lowest priority vs p) refl
      go (some i) h = free h.1 (not-true (audible h.0) h.2)
