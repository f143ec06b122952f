-- Std's searches, and loops over a whole list, find what the rule's searches find. Assumes nothing.
use Prim.Native.Nat.{ℕ, suc, ◌+◌, ◌≤◌, ◌<◌}
use native.Mathlib.Omega.{arith}
use mathlib.Core.Path.{◌≡◌, refl, sym}
use mathlib.Core.Bool.{Bool, true, false, cond, not}
use mathlib.Core.List.{List, [], ◌∷◌}
use mathlib.Core.Option.{none, some, map}
use Rattle.std.specs.Prelude as R
use Rattle.std.specs.List.{position, position_or_len}
use lib.Dec.{ltb}
use borrow.Author.Tests.{lt-ltb, le-ltb, ltb-true, ltb-false}
use native.Mathlib.Numerals.{add-one}
use lib.ListN.{length, get_or, drop, drop_of_length-le}
use lib.Seq.{drop-cons}
use Rattle.error.specs.Told.{Told, value, refused}
use Rattle.ranking.specs.Rule.{first_where, first_free}
use Rattle.ranking.proofs.Scans.{lowest_from}
use Rattle.allocate.specs.Allocation.{place_of, told_place}
use Rattle.allocate.proofs.Choice.{place-some}

place-none : (o : mathlib.Core.Option.Option ℕ) → place_of o ≡ refused 5 → o ≡ none
place-none none e = refl
place-none (some i) e = let z : ◌≡◌ {A = ℕ} 0 1 = cc in absurd (omega arith)

ltb-suc : (a b : ℕ) → ltb (suc a) (suc b) ≡ ltb a b
ltb-suc a b = go (ltb a b) refl
  where
    go : (t : Bool) → ltb a b ≡ t → ltb (suc a) (suc b) ≡ t
    go true e = lt-ltb (suc a) (suc b) (let h = ltb-true a b e in omega arith)
    go false e = le-ltb (suc a) (suc b) (let h = ltb-false a b e in omega arith)

module _ {V : Type 0} (test : V → Bool) where
  pub position-where : (vs : List V) → told_place (position test vs) ≡ place_of (first_where test vs)
  unfolding first_where
  position-where [] = refl
  position-where (v ∷ vs) = here (test v) (position-where vs)
    where
      later : (t : Bool) → told_place (cond t (R.Some (position_or_len test vs)) R.None) ≡ place_of (first_where test vs)
          → told_place (cond t (R.Some (suc (position_or_len test vs))) R.None) ≡ place_of (map suc (first_where test vs))
      later true e = rw (place-some (first_where test vs) (position_or_len test vs) (sym e))
      later false e = rw (place-none (first_where test vs) (sym e))

      here : (t : Bool) → told_place (position test vs) ≡ place_of (first_where test vs)
          → told_place (cond (ltb (cond (not t) (1 + position_or_len test vs) 0) (suc (length vs))) (R.Some (cond (not t) (1 + position_or_len test vs) 0)) R.None)
          ≡ place_of (cond t (some 0) (map suc (first_where test vs)))
      here true e = rw (lt-ltb 0 (suc (length vs)) (omega arith))
      here false e =
          let n : 1 + position_or_len test vs ≡ suc (position_or_len test vs) = omega arith in
          rw (n, ltb-suc (position_or_len test vs) (length vs)) (later (ltb (position_or_len test vs) (length vs)) e)

pub free-position : {V : Type 0} (audible : V → Bool) (vs : List V) → told_place (position (λ v. not (audible v)) vs) ≡ place_of (first_free audible vs)
unfolding first_free
free-position audible vs = position-where (λ v. not (audible v)) vs

-- ---- a loop over a whole list, with the lowest so far
module _ {V : Type 0} (priority : V → ℕ) (best : Told ℕ) (low : ℕ) (vs : List V) where
  pub lowest-done : (i : ℕ) → length vs ≤ i → lowest_from place_of priority best low i (drop i vs) ≡ best
  unfolding lowest_from
  lowest-done i h = rw (drop_of_length-le vs h)

  module _ (i : ℕ) (d : V) (h : i < length vs) where
    pub lowest-here : priority (get_or vs i d) < low
        → lowest_from place_of priority best low i (drop i vs) ≡ lowest_from place_of priority (value i) (priority (get_or vs i d)) (i + 1) (drop (i + 1) vs)
    unfolding lowest_from
    lowest-here l = rw (drop-cons vs i d h, lt-ltb (priority (get_or vs i d)) low l, add-one)

    pub lowest-on : low ≤ priority (get_or vs i d)
        → lowest_from place_of priority best low i (drop i vs) ≡ lowest_from place_of priority best low (i + 1) (drop (i + 1) vs)
    unfolding lowest_from
    lowest-on l = rw (drop-cons vs i d h, le-ltb (priority (get_or vs i d)) low l, add-one)
