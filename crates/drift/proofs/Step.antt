-- One sample, in units: what the sum is rounded to, and the phase after it. Assumes nothing.
use mathlib.Core.Path.{◌≡◌, refl, sym, ap, ◌∙◌, subst}
use Prim.Native.Nat.{ℕ, ◌+◌, ◌-◌, ◌*◌, ◌^◌, ◌≤◌, ◌<◌}
use native.Mathlib.Nat.{mul-lt-mul_of_pos_right, lt_of_mul-lt-mul_right, lt_of_le_of_lt, eq_of_mul-eq-mul_right, le_of_mul-le-mul_right, lt_of_not-le, lt_of_lt_of_le, le_trans, le_of_eq, mul-one}
use native.Mathlib.Omega.{arith}
use mathlib.Core.Bool.{Bool, true, false, cond}
use lib.IntN.{pos}
use lib.Dec.{T, leb→le}
use lib.Pow.{pow_pos, pow_mono, shl_lt}
use lib.Ieee.{Float, binary32, round, le, fits}
use lib.Ieee.Exact.{HasValue, round_exact}
use lib.Ieee.Fits.{add-fits, sub-fits}
use lib.Ieee.Order.{le_of_values}
use lib.Ieee.Positive.{den, den_pos, value→cross}
use lib.Ieee.Scale.{grid, round_val}
use Rattle.laws.specs.F32.{◌⊕◌, ◌⊖◌}
use Rattle.laws.proofs.F32.{one-is}
use Rattle.laws.proofs.Rounding.{round-down}
use Rattle.polyblep.specs.Oscillators.{completes, advance}
use Rattle.drift.specs.Pitch.{Within}
use Rattle.drift.proofs.Near.{grid-near}
use Rattle.drift.proofs.Prices.{Went}
use Rattle.drift.proofs.Values.{U, P, one, add-value, sub-value, least-units, grains, left-exact}

pub record Moved (x d : Float) (s : ℕ) : Type 0 where
  pub sum : ℕ
  pub next : ℕ
  pub value : HasValue (advance x d) false next U
  pub fit : T (fits binary32 (advance x d))
  pub any : Within (P * 4) sum s
  pub one : s < U → Within (P * 2) sum s
  pub half : s < 2 ^ 148 → Within P sum s
  pub exact : (k : ℕ) → s ≡ k * (P * 4) → s < U → sum ≡ s
  pub went : Went U P (completes x d) s sum next

-- numbers, with 2^149 as l
cancel-near : (g s l e : ℕ) → 0 < l → Within (l * (e * 2)) (g * l * 2) (s * l * 2) → Within e g s
cancel-near g s l e L w =
    let a = w.0 in
    let b = w.1 in
    let x : g * 2 * l ≤ (s * 2 + e * 2) * l = omega (arith, a) in
    let y : s * 2 * l ≤ (g * 2 + e * 2) * l = omega (arith, b) in
    let x' : g * 2 ≤ s * 2 + e * 2 = le_of_mul-le-mul_right x L in
    let y' : s * 2 ≤ g * 2 + e * 2 = le_of_mul-le-mul_right y L in
    (omega arith, omega arith)

-- `omega` stops at numbers of more than 38 digits: l is 2^149 and p 2^123 here
room : (u v l p : ℕ) → l ≡ 67108864 * p → 0 < p → u < l → v ≤ 33487324 * p → u + v < l * 2
room u v l p z k b h = omega arith

rounded-room : (u v g l p : ℕ) → l ≡ 67108864 * p → 0 < p → u < l → v ≤ 33487324 * p → g ≤ u + v + p * 4 → g < l * 2
rounded-room u v g l p z k b h c = omega arith

over : (l s : ℕ) → l ≤ s → 1 * l ≤ s * 1
over l s h = omega arith

plain : (l g : ℕ) → 1 * 1 * l ≤ g * 1 → l ≤ g
plain l g h = omega arith

back : (g l : ℕ) → l ≤ g → g ≡ l + (g - l)
back g l h = omega arith

module _ (x d : Float) (u v : ℕ) (b : u < U) (h : v ≤ 33487324 * P) (p : HasValue x false u U) (q : HasValue d false v U) where
  g : ℕ
  g = grid binary32 (u + v) U

  near : (k e : ℕ) → 2 ^ k ≡ e * 2 → u + v < 2 ^ (24 + k) → Within e g (u + v)
  unfolding g
  near k e z l =
      cancel-near g (u + v) U e (pow_pos 149)
      (rw z at (grid-near binary32 (u + v) U k (pow_pos 149) (mul-lt-mul_of_pos_right l (pow_pos 149))))

  any-near : Within (P * 4) g (u + v)
  any-near = near 126 (P * 4) refl (room u v U P refl (pow_pos 123) b h)

  under-two : g < 2 ^ 150
  under-two = rounded-room u v g U P refl (pow_pos 123) b h any-near.0

  is_sum : x ⊕ d ≡ round binary32 false (u + v) U
  is_sum = add-value x d U u v (pow_pos 149) p q

  sum-value : HasValue (x ⊕ d) false g U
  unfolding g
  sum-value = rw is_sum (round_val binary32 (u + v) U (lt_of_lt_of_le under-two (pow_mono (leb→le 150 277 tt))))

  -- a multiple of 2^−24 below 1 is a float
  same_sum : (k : ℕ) → u + v ≡ k * (P * 4) → u + v < U → g ≡ u + v
  same_sum k e l =
      let few : k < 2 ^ 24 = lt_of_mul-lt-mul_right (P * 4) (lt_of_le_of_lt (le_of_eq (sym e)) l) in
      let own : HasValue (x ⊕ d) false (u + v) U =
      rw is_sum (round_exact binary32 false (u + v) U k 125 (pow_pos 149) few (lt_of_lt_of_le (shl_lt 24 125 few) (pow_mono (leb→le 149 277 tt))) (ap (λ (z : ℕ). z * U) e)) in
      eq_of_mul-eq-mul_right (den (x ⊕ d)) (den_pos (x ⊕ d)) g (u + v) (sym (value→cross (x ⊕ d) g U sum-value) ∙ value→cross (x ⊕ d) (u + v) U own)

  -- a sum from 1 up is rounded to 1 or more
  turns-over : U ≤ u + v → T (le one (x ⊕ d))
  turns-over l = rw is_sum (round-down (u + v) U 1 1 (pow_pos 149) (pow_pos 0) (over U (u + v) l) one-is)

  over-turns : U ≤ g → T (le one (x ⊕ d))
  over-turns l = le_of_values one (x ⊕ d) 1 1 g U (pow_pos 0) (pow_pos 149) (refl, refl) sum-value (over U g l)

  by-test : (t : Bool) → le one (x ⊕ d) ≡ t
      → (w : ℕ) × HasValue (cond t (x ⊕ d ⊖ one) (x ⊕ d)) false w U × T (fits binary32 (cond t (x ⊕ d ⊖ one) (x ⊕ d))) × Went U P t (u + v) g w
  by-test true e =
      let ge : U ≤ g = plain U g (least-units 1 (pos 0) (x ⊕ d) g (subst T (sym e) tt) sum-value) in
      let t = grains 0 (leb→le 0 3 tt) (x ⊕ d) g (add-fits binary32 x d) sum-value (le_trans ge (le_of_eq (sym (mul-one g)))) in (
        g - U,
        subst (λ (z : Float). HasValue z false (g - U) U) (sym (sub-value (x ⊕ d) U g (pow_pos 149) ge sum-value)) (left-exact t.0 g t.1 ge under-two),
        sub-fits binary32 (x ⊕ d) one,
        (back g U ge, t),
      )
  by-test false e =
      let no : T (le one (x ⊕ d)) → ⊥ = λ t. subst T e t in
      (g, sum-value, add-fits binary32 x d, (refl, lt_of_not-le (λ (l : U ≤ u + v). no (turns-over l)), lt_of_not-le (λ (l : U ≤ g). no (over-turns l))))

  pub moved : Moved x d (u + v)
  unfolding advance
  moved =
      let r = rw (sym one-is) at (by-test (le one (x ⊕ d)) refl) in
      record {
        sum = g;
        next = r.0;
        value = r.1;
        fit = r.2;
        any = any-near;
        one = near 125 (P * 2) refl;
        half = near 124 P refl;
        exact = same_sum;
        went = r.3;
      }
