-- Lists held to a length. Assumes nothing.
use Prim.Native.Nat.{ℕ, zero, suc, ◌-◌}
use mathlib.Core.Path.{◌≡◌, refl, ap}
use mathlib.Core.List.{List, [], ◌∷◌, ◌++◌}
use native.Mathlib.Omega.{arith}
use lib.ListN.{length, take}

module _ {A : Type 0} where
  -- what is cut away is not missed before a second cut
  pub cut-cut : (n : ℕ) (xs ys : List A) → take n (take n xs ++ ys) ≡ take n (xs ++ ys)
  cut-cut zero xs ys = refl
  cut-cut (suc n) [] ys = refl
  cut-cut (suc n) (x ∷ xs) ys = ap (λ (r : List A). x ∷ r) (cut-cut n xs ys)

  -- a cut of two lists
  pub take-append : (n : ℕ) (xs ys : List A) → take n (xs ++ ys) ≡ take n xs ++ take (n - length xs) ys
  take-append zero xs ys = let z : 0 - length xs ≡ 0 = omega arith in rw z
  take-append (suc n) [] ys = let e : suc n - 0 ≡ suc n = omega arith in rw e
  take-append (suc n) (x ∷ xs) ys = let e : suc n - suc (length xs) ≡ n - length xs = omega arith in rw (e, take-append n xs ys)
