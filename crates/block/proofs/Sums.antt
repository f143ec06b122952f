-- Sums of what voices give. Assumes nothing.
use Rattle.std.specs.Prelude.{None, Option, Some}
use Prim.Native.Nat.{ℕ, suc, ◌+◌}
use native.Mathlib.Nat.{add-zero, add-suc, suc-add}
use native.Mathlib.Omega.{arith}
use mathlib.Core.Path.{◌≡◌, refl, ap}
use mathlib.Core.Bool.{Bool, cond}
use mathlib.Core.List.{List, [], ◌∷◌, ◌++◌}
use lib.IntN.{ℤ, pos, ◌+ℤ◌, +ℤ_idl, +ℤ_idr, +ℤ_assoc}
use lib.Dec.{ltb}
use lib.ListN.{length}
use Rattle.laws.specs.Whole.{trunc_div}
use Rattle.fixed.specs.Fixed.{gained, factor_of, gained_by, pan_gains}
use Rattle.fixed.proofs.Laws.{gained-whole}
use Rattle.voice.specs.Voices.{panned_by}
use Rattle.frame.specs.Places.{map_at}
use Rattle.frame.specs.Frames.{total, given_count, averaged, left_of, right_of}

-- the sum of f over a list, each with its place, the first at place i
unfoldable pub sum_at : {A : Type 0} → (ℕ → A → ℤ) → ℕ → List A → ℤ
sum_at f i [] = pos 0
sum_at f i (x ∷ l) = f i x +ℤ sum_at f (suc i) l

module _ {A : Type 0} (f : ℕ → A → ℤ) where
  pub sum-last : (i : ℕ) (l : List A) (x : A) → sum_at f i (l ++ (x ∷ [])) ≡ sum_at f i l +ℤ f (i + length l) x
  unfolding sum_at
  sum-last i [] x = rw (+ℤ_idr, +ℤ_idl, add-zero)
  sum-last i (y ∷ l) x = rw (sum-last (suc i) l x, ← +ℤ_assoc (f i y) (sum_at f (suc i) l) (f (suc i + length l) x), add-suc, suc-add)

-- what an answer adds to a sum, under a gain of 256ths
unfoldable pub value_of : ℕ → Option ℤ → ℤ
value_of g (Some s) = gained s g
value_of g None = pos 0

unfoldable pub one_of : Option ℤ → ℕ
one_of (Some s) = 1
one_of None = 0

pub left_value : (w : Bool) (pan : ℕ) (g : Option ℤ) → left_of (panned_by (gained_by w) pan g) ≡ value_of (factor_of w (pan_gains pan).left) g
unfolding value_of
left_value w pan (Some s) = refl
left_value w pan None = refl

pub right_value : (w : Bool) (pan : ℕ) (g : Option ℤ) → right_of (panned_by (gained_by w) pan g) ≡ value_of (factor_of w (pan_gains pan).right) g
unfolding value_of
right_value w pan (Some s) = refl
right_value w pan None = refl

total-nil : total [] ≡ pos 0
unfolding total
total-nil = refl

count-nil : given_count [] ≡ 0
unfolding given_count
count-nil = refl

-- how many of a list answer
unfoldable pub count_at : {A : Type 0} → (ℕ → A → Option ℤ) → ℕ → List A → ℕ
count_at g i [] = 0
count_at g i (x ∷ l) = one_of (g i x) + count_at g (suc i) l

module _ {A : Type 0} (g : ℕ → A → Option ℤ) where
  pub count-last : (i : ℕ) (l : List A) (x : A) → count_at g i (l ++ (x ∷ [])) ≡ count_at g i l + one_of (g (i + length l) x)
  unfolding count_at
  count-last i [] x = let e = ap (λ (j : ℕ). one_of (g j x)) (add-zero i) in omega arith
  count-last i (y ∷ l) x =
      let q : suc i + length l ≡ i + suc (length l) = omega arith in
      let e = ap (λ (j : ℕ). one_of (g j x)) q in
      omega (arith, count-last (suc i) l x)

  -- the mono sum, and its count
  total-more : (a : Option ℤ) (gs : List (Option ℤ)) (z : ℤ) → total gs ≡ z → total (a ∷ gs) ≡ value_of 256 a +ℤ z
  unfolding total value_of
  total-more (Some s) gs z h = rw (gained-whole s, h)
  total-more None gs z h = rw (+ℤ_idl z, h)

  pub total-sum : (i : ℕ) (l : List A) → total (map_at g i l) ≡ sum_at (λ j x. value_of 256 (g j x)) i l
  unfolding sum_at map_at
  total-sum i [] = total-nil
  total-sum i (x ∷ l) = total-more (g i x) (map_at g (suc i) l) (sum_at (λ j x. value_of 256 (g j x)) (suc i) l) (total-sum (suc i) l)

  count-more : (a : Option ℤ) (gs : List (Option ℤ)) (n : ℕ) → given_count gs ≡ n → given_count (a ∷ gs) ≡ one_of a + n
  unfolding given_count one_of
  count-more (Some s) gs n h = omega arith
  count-more None gs n h = omega arith

  pub count-sum : (i : ℕ) (l : List A) → given_count (map_at g i l) ≡ count_at g i l
  unfolding count_at map_at
  count-sum i [] = count-nil
  count-sum i (x ∷ l) = count-more (g i x) (map_at g (suc i) l) (count_at g (suc i) l) (count-sum (suc i) l)

  -- the mean, from the two
  pub averaged-sum : (l : List A)
      → averaged (map_at g 0 l)
      ≡ cond (ltb 1 (count_at g 0 l)) (trunc_div (sum_at (λ j x. value_of 256 (g j x)) 0 l) (count_at g 0 l)) (sum_at (λ j x. value_of 256 (g j x)) 0 l)
  unfolding averaged
  averaged-sum l = rw (total-sum 0 l, count-sum 0 l)
