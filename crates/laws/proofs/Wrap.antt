-- What wrap32 gives. Assumes nothing.
use mathlib.Core.Path.{◌≡◌, refl, sym, ap, ◌∙◌}
use mathlib.Core.Bool.{Bool, true, false, cond}
use Prim.Native.Nat.{ℕ, suc, ◌+◌, ◌-◌, ◌%◌, ◌^◌, ◌<◌}
use native.Mathlib.Nat.{mod-eq_of_lt, add-mod_right}
use native.Mathlib.Omega.{arith}
use borrow.Author.Tests.{ltb-true, ltb-false}
use lib.Dec.{ltb}
use lib.IntN.{ℤ, pos, negsuc, ◌+ℤ◌, ◌-ℤ◌, -ℤ-+ℤ_cancel}
use mir.Syntax.{w32}
use mir.Val.{SFits, to_z, of_z}
use mir.ValLaws.{to_z-of_z}
use Rattle.laws.specs.Whole.{modulo, wrap32}

-- what fits is left as it is
modulo-fits : (z : ℤ) → SFits w32 z → modulo z (2 ^ 32) ≡ of_z w32 z
modulo-fits (pos n) f = mod-eq_of_lt (omega arith)
modulo-fits (negsuc k) f = ap (λ (n : ℕ). 2 ^ 32 - suc n) (mod-eq_of_lt (omega arith))

pub wrap-id : (z : ℤ) → SFits w32 z → wrap32 z ≡ z
unfolding wrap32
wrap-id z f = ap (to_z w32) (modulo-fits z f) ∙ to_z-of_z w32 z f

-- a lap more or less is the same number
modulo-lap : (z : ℤ) (m : ℕ) → 0 < m → modulo (z +ℤ pos m) m ≡ modulo z m
modulo-lap (pos a) m p = add-mod_right a m
modulo-lap (negsuc k) m p = by-test (ltb m (suc k)) refl
  where
    by-test : (t : Bool) → ltb m (suc k) ≡ t → modulo (cond t (negsuc (suc k - suc m)) (pos (m - suc k))) m ≡ m - suc (k % m)
    by-test true e =
        let h = ltb-true m (suc k) e in
        let s : k ≡ (suc k - suc m) + m = omega arith in
        ap (λ (n : ℕ). m - suc n) (sym (ap (λ (n : ℕ). n % m) s ∙ add-mod_right (suc k - suc m) m))
    by-test false e =
        let h = ltb-false m (suc k) e in
        let s : k % m ≡ k = mod-eq_of_lt (omega arith) in
        let l : (m - suc k) % m ≡ m - suc k = mod-eq_of_lt (omega arith) in
        l ∙ ap (λ (n : ℕ). m - suc n) (sym s)

pub wrap-low : (z : ℤ) → wrap32 (z +ℤ pos (2 ^ 32)) ≡ wrap32 z
unfolding wrap32
wrap-low z = ap (to_z w32) (modulo-lap z (2 ^ 32) (omega arith))

pub wrap-high : (z : ℤ) → wrap32 (z -ℤ pos (2 ^ 32)) ≡ wrap32 z
wrap-high z = sym (wrap-low (z -ℤ pos (2 ^ 32))) ∙ ap wrap32 (-ℤ-+ℤ_cancel z (pos (2 ^ 32)))
