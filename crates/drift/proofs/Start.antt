-- The step of a start is Hz ÷ rate, rounded: the clamp leaves it as it is. Assumes nothing.
use mathlib.Core.Path.{◌≡◌, refl, ap}
use Prim.Native.Nat.{ℕ, ◌*◌, ◌^◌, ◌≤◌, ◌<◌, max}
use native.Mathlib.Nat.{mul-lt-mul_of_pos_right, mul-pos}
use native.Mathlib.Omega.{arith}
use mathlib.Core.Bool.{true, false, true≢false}
use borrow.Author.Tests.{le-ltb, ne_eqb}
use lib.IntN.{negsuc}
use lib.Dec.{T, leb→le}
use lib.Pow.{pow_pos}
use lib.Ieee.{Float, nan, inf, fin, binary32, up, down, round, lt, div, of_int, fits}
use lib.Ieee.Back.{round_whole}
use lib.Ieee.Exact.{HasValue}
use lib.Ieee.Fits.{down_pos, round-fits}
use lib.Ieee.Scale.{grid, finite, round_val, round_under, round_same}
use Rattle.laws.specs.F32.{◌⊘◌, held_to_f}
use Rattle.laws.proofs.Rounding.{non_neg, not-below-zero, round-non_neg}
use Rattle.polyblep.specs.Oscillators.{step_of}
use Rattle.polyblep.proofs.Ranges.{at_most, round-at_most, hi, hi-is}
use Rattle.drift.specs.Pitch.{InReach, Within}
use Rattle.drift.proofs.Near.{grid-near}
use Rattle.drift.proofs.Values.{U, P, most-units}

-- ---- a quotient of two whole numbers as one rounding
quotient : (a b c d f r : ℕ) → a * 1 ≡ f * c → b * 1 ≡ r * d → a * d * r ≡ f * (b * c)
quotient a b c d f r p q =
    let x : a * (d * r) ≡ f * c * (d * r) = ap (λ (z : ℕ). z * (d * r)) (let e : a ≡ f * c = omega arith in e) in
    let y : b * (f * c) ≡ r * d * (f * c) = ap (λ (z : ℕ). z * (f * c)) (let e : b ≡ r * d = omega arith in e) in
    omega arith

above : (n r d : ℕ) → 0 < r → 0 < d → n * 1 ≡ r * d → 0 < n
above n r d R D h = let x : 0 < r * d = mul-pos R D in omega arith

nonzero : (n g r d : ℕ) → 0 < r → 0 < d → n * g * 1 ≡ r * d → n ≡ 0 → ⊥
nonzero n g r d R D h e =
    let x : 0 < r * d = mul-pos R D in
    let y : n * g ≡ 0 * g = ap (λ (z : ℕ). z * g) e in
    omega arith

div_value : (x y : Float) (f r : ℕ) → 0 < r → HasValue x false f 1 → HasValue y false r 1 → x ⊘ y ≡ round binary32 false f r
unfolding div
div_value nan y f r R p q = absurd p
div_value (inf s) y f r R p q = absurd p
div_value (fin true m e) y f r R p q = absurd (true≢false p.0)
div_value (fin false m e) nan f r R p q = absurd q
div_value (fin false m e) (inf s) f r R p q = absurd q
div_value (fin false m e) (fin true n g) f r R p q = absurd (true≢false q.0)
div_value (fin false m e) (fin false n g) f r R p q =
    rw (ne_eqb n 0 (nonzero n (up g) r (down g) R (down_pos g) q.1))
    (round_same binary32 false (m * up e * down g) (n * up g * down e) f r (mul-pos (above (n * up g) r (down g) R (down_pos g) q.1) (down_pos e)) R (quotient (m * up e) (n * up g) (down e) (down g) f r p.1 q.1))

-- ---- what is at most 0.499 the clamp leaves
under-hi : (x : Float) → T (non_neg x) → T (at_most 8371831 16777216 x) → lt hi x ≡ false
unfolding lt at_most
under-hi nan p t = absurd p
under-hi (inf s) p t = absurd t
under-hi (fin true m e) p t = absurd p
under-hi (fin false m e) p t =
    let h : m * up e * 16777216 ≤ 8371831 * down e = leb→le (m * up e * 16777216) (8371831 * down e) t in
    le-ltb (8371831 * 1 * down e) (m * up e * 16777216) (omega (arith, h))

finite-of : (a b : ℕ) (p : Float) → T (at_most a b p) → T (finite p)
unfolding at_most
finite-of a b nan t = t
finite-of a b (inf s) t = t
finite-of a b (fin s m e) t = tt

part-lt : (f r l b : ℕ) → f * b < r → 0 < l → f * (l * b) < l * r
part-lt f r l b h L = let x : f * b * l < r * l = mul-lt-mul_of_pos_right h L in omega arith

below_half : (f r : ℕ) → 1000 * f < 499 * r → f * 2 < r
below_half f r h = omega arith

halve : (x y r e : ℕ) → Within (r * (e * 2)) (x * 2) (y * 2) → Within (r * e) x y
halve x y r e w = (let a = w.0 in omega (arith, a), let b = w.1 in omega (arith, b))

to-parts : (v l p : ℕ) → l ≡ 67108864 * p → v * 16777216 ≤ 8371831 * l → v ≤ 33487324 * p
to-parts v l p z h = omega arith

module _ (hz rate : ℕ) (r : InReach hz rate) where
  quotient-small : T (at_most 8371831 16777216 (round binary32 false hz rate))
  quotient-small = round-at_most hz rate 499 1000 8371831 (negsuc 23) (omega (arith, r.least)) (omega arith) (omega (arith, r.below)) hi-is

  pub step_is : step_of hz rate ≡ round binary32 false hz rate
  unfolding step_of of_int held_to_f
  step_is =
      let m : max rate 1 ≡ rate = omega (arith, r.least) in
      let n = round-non_neg binary32 hz rate in
      rw (
        m,
        div_value (round binary32 false hz 1) (round binary32 false rate 1) hz rate (omega (arith, r.least)) (round_whole binary32 false hz r.exact) (round_whole binary32 false rate (omega (arith, r.most))),
        not-below-zero (round binary32 false hz rate) n,
        hi-is,
        under-hi (round binary32 false hz rate) n quotient-small,
      )

  -- the step in units
  pub step-units : ℕ
  step-units = grid binary32 hz rate

  pub step_value : HasValue (step_of hz rate) false step-units U
  unfolding step-units
  step_value = rw step_is (round_val binary32 hz rate (round_under binary32 hz rate (finite-of 8371831 16777216 (round binary32 false hz rate) quotient-small)))

  pub step_fits : T (fits binary32 (step_of hz rate))
  step_fits = rw step_is (round-fits binary32 false hz rate)

  pub step-most : step-units ≤ 33487324 * P
  step-most = to-parts step-units U P refl (most-units 8371831 16777216 (step_of hz rate) step-units (rw step_is quotient-small) step_value)

  -- it is the nearest: off by at most 2^−26, and by half of that below 1 ÷ 4
  pub step-near : Within (rate * P) (step-units * rate) (hz * U)
  unfolding step-units
  step-near =
      halve (grid binary32 hz rate * rate) (hz * U) rate P
      (grid-near binary32 hz rate 124 r.least (part-lt hz rate (2 ^ 148) 2 (below_half hz rate r.below) (pow_pos 148)))

  pub step-nearer : hz * 4 < rate → Within (rate * 2 ^ 122) (step-units * rate) (hz * U)
  unfolding step-units
  step-nearer h =
      halve (grid binary32 hz rate * rate) (hz * U) rate (2 ^ 122)
      (grid-near binary32 hz rate 123 r.least (part-lt hz rate (2 ^ 147) 4 h (pow_pos 147)))
