-- Laws of the two counts. Assumes nothing.
use Prim.Native.Nat.{ℕ, ◌^◌, ◌≤◌, ◌<◌}
use native.Mathlib.Omega.{arith}
use mathlib.Core.Path.{◌≡◌, refl, sym, ◌∙◌}
use mathlib.Core.Bool.{Bool, true, false, cond, not, ◌||◌}
use mathlib.Core.List.{List}
use lib.Dec.{leb, ltb, leb-zero}
use lib.ListN.{length}
use borrow.Author.Tests.{le-ltb, lt-leb, ltb-false, leb-false}
use Rattle.error.specs.Told.{value, refused, ValidTold}
use Rattle.laws.proofs.Bools.{never}
use Rattle.laws.proofs.Lists.{all-imp}
use Rattle.counts.specs.Counts.{lists, how_many, turned_away, counted_by, uncounted, counted, AddUp}
use Rattle.counts.proofs.Lists.{Listed, lists_length, lists-inside}
use Rattle.counts.proofs.Many.{many-both, many-most, many-all, many-none, many-same}

-- "The two add up to k to the power n", by whatever test
pub add-up : (test : List ℕ → Bool) (k n : ℕ) → AddUp k n (counted_by test k n)
unfolding counted_by
add-up test k n = record { all = many-both test (lists k n) ∙ lists_length k n }

pub counted-adds : (voices k n p : ℕ) → ValidTold (AddUp k n) (counted voices k n p)
unfolding counted
counted-adds voices k n p = go (uncounted voices k n p)
  where
    go : (t : Bool) → ValidTold (AddUp k n) (cond t (refused 22) (value (counted_by (turned_away voices p) k n)))
    go true = tt
    go false = add-up (turned_away voices p) k n

-- tests that agree on every list of n priorities below k count the same
pub counted_same : (s t : List ℕ → Bool) (k n : ℕ) → ((l : List ℕ) → Listed k n l → s l ≡ t l) → counted_by s k n ≡ counted_by t k n
unfolding counted_by
counted_same s t k n h =
    rw (
      many-same s t (lists k n) (all-imp (Listed k n) (λ l. s l ≡ t l) h (lists k n) (lists-inside k n)),
      many-same (λ l. not (s l)) (λ l. not (t l)) (lists k n) (all-imp (Listed k n) (λ l. not (s l) ≡ not (t l)) (λ l g. rw (h l g)) (lists k n) (lists-inside k n)),
    )

-- none are always there, and more than all never are, whatever is counted
none_needed : (test : ℕ → Bool) (l : List ℕ) → leb 0 (how_many test l) ≡ true
none_needed test l = leb-zero (how_many test l)

too_few : (test : ℕ → Bool) (voices n : ℕ) (l : List ℕ) → n < voices → length l ≡ n → leb voices (how_many test l) ≡ false
too_few test voices n l h e = lt-leb voices (how_many test l) (omega (arith, many-most test l))

-- "With N = 0 all are refused."
pub all-refused : (k n p : ℕ) → (counted_by (turned_away 0 p) k n).refused ≡ k ^ n
unfolding counted_by turned_away
all-refused k n p =
    many-all (turned_away 0 p) (lists k n) (all-imp (Listed k n) (λ l. turned_away 0 p l ≡ true) (λ l g. none_needed _ l) (lists k n) (lists-inside k n))
    ∙ lists_length k n

-- fewer requests than voices leave one free
pub none-refused : (voices k n p : ℕ) → n < voices → (counted_by (turned_away voices p) k n).refused ≡ 0
unfolding counted_by turned_away
none-refused voices k n p h =
    many-none
    (turned_away voices p)
    (lists k n)
    (all-imp
    (Listed k n)
    (λ l. turned_away voices p l ≡ false)
    (λ l g. too_few _ voices n l h g.long)
    (lists k n)
    (lists-inside k n))

pub counted-past : (voices k n p : ℕ) → uncounted voices k n p ≡ true → counted voices k n p ≡ refused 22
unfolding counted
counted-past voices k n p h = rw h

-- what is counted
pub record Within (voices k n p : ℕ) : Type 0 where
  pub some : 1 ≤ k
  pub few : k ≤ 4
  pub short : n ≤ 8
  pub box : voices ≤ 16
  pub one : p < k

pub within-counted : {voices k n p : ℕ} → Within voices k n p → uncounted voices k n p ≡ false
unfolding uncounted
within-counted {voices} {k} {n} {p} w =
    rw (le-ltb k 1 w.some, le-ltb 4 k w.few, le-ltb 8 n w.short, le-ltb 16 voices w.box, lt-leb k p w.one)

neither : (a b : Bool) → (a || b) ≡ false → (a ≡ false) × (b ≡ false)
neither true b e = never (sym e)
neither false b e = (refl, e)

pub counted-is-within : (voices k n p : ℕ) → uncounted voices k n p ≡ false → Within voices k n p
unfolding uncounted
counted-is-within voices k n p h =
    let e = neither (ltb k 1 || ltb 4 k || ltb 8 n || ltb 16 voices) (leb k p) h in
    let d = neither (ltb k 1 || ltb 4 k || ltb 8 n) (ltb 16 voices) e.0 in
    let c = neither (ltb k 1 || ltb 4 k) (ltb 8 n) d.0 in
    let b = neither (ltb k 1) (ltb 4 k) c.0 in
    record {
      some = ltb-false k 1 b.0;
      few = ltb-false 4 k b.1;
      short = ltb-false 8 n c.1;
      box = ltb-false 16 voices d.1;
      one = leb-false k p e.1;
    }

pub counted-within : {voices k n p : ℕ} → Within voices k n p → counted voices k n p ≡ value (counted_by (turned_away voices p) k n)
unfolding counted
counted-within w = rw (within-counted w)
