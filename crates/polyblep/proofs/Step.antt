-- A step lies in 0..0.499: the quotient is no NaN and not negative, and the clamp does the rest. Assumes nothing.
use Rattle.std.proofs.Common.{◌≡◌, ℕ, zero, suc, ◌*◌, ◌^◌, ◌<◌, ◌≤◌, max, Bool, true, false, cond, T, pos, refl, ◌∙◌, true≢false, lt_irrefl, mul-le-mul_right, zero-lt-suc, mul-pos, arith, le→leb, leb→le, nltb→le, lt-ltb, ne_eqb}
use lib.Ieee.{Float, nan, inf, fin, binary32, up, down, round, of_int, div, lt, le, eq}
use lib.Ieee.Fits.{down_pos, up_pos}
use lib.Ieee.Scale.{round_same}
use Rattle.laws.specs.F32.{◌⊘◌, lit, held_to_f}
use Rattle.laws.proofs.F32.{zero_is, one-is, or-le}
use Rattle.laws.proofs.Rounding.{non_neg, not-below-zero, round-non_neg, round-down}
use Rattle.polyblep.specs.Ranges.{is_step}
use Rattle.polyblep.specs.Oscillators.{step_of}
use Rattle.polyblep.proofs.Ranges.{at_most, round-at_most, hi, hi-is, apart, at_most→step}

u32-is : round binary32 false 4294967296 1 ≡ fin false 1 (pos 32)
unfolding round
u32-is = refl

-- ---- the clamp of a number that is not negative
at-hi : (x : Float) (b : Bool) → T (non_neg x) → lt hi x ≡ b → T (at_most 8371831 16777216 (cond b hi x))
unfolding lt at_most
at-hi x true p h = tt
at-hi nan false p h = absurd p
at-hi (inf true) false p h = absurd p
at-hi (inf false) false p h = absurd (true≢false h)
at-hi (fin true m e) false p h = absurd p
at-hi (fin false m e) false p h =
    let l : m * up e * 2 ^ 24 ≤ 8371831 * 1 * down e = nltb→le (8371831 * 1 * down e) (m * up e * 2 ^ 24) (rw h tt) in
    le→leb (m * up e * 16777216) (8371831 * down e) (omega (arith, l))

clamped : (x : Float) → T (non_neg x) → T (at_most 8371831 16777216 (held_to_f (lit 0 1) (lit 499 1000) x))
unfolding held_to_f
clamped x p = rw (not-below-zero x p, hi-is) (at-hi x (lt hi x) p refl)

-- ---- the two numbers of the quotient: finite, and the divisor at least 1
record Divisor (y : Float) : Type 0 where
  least : T (le (fin false 1 (pos 0)) y)
  most : T (at_most 4294967296 1 y)

u32-at_most : (n : ℕ) → n < 4294967296 → T (at_most 4294967296 1 (round binary32 false n 1))
u32-at_most n h = round-at_most n 1 4294967296 1 1 (pos 32) (omega arith) (omega arith) (omega arith) u32-is

divisor : (rate : ℕ) → rate < 4294967296 → Divisor (round binary32 false (max rate 1) 1)
divisor rate h =
    record {
      least = round-down (max rate 1) 1 1 1 (omega arith) (omega arith) (omega arith) one-is;
      most = u32-at_most (max rate 1) (omega arith);
    }

div-non_neg : (x y : Float) → T (at_most 4294967296 1 x) → Divisor y → T (non_neg (x ⊘ y))
unfolding at_most div le lt eq
div-non_neg nan y p q = absurd p
div-non_neg (inf s) y p q = absurd p
div-non_neg (fin true m e) y p q = absurd p
div-non_neg (fin false m e) nan p q = absurd q.most
div-non_neg (fin false m e) (inf s) p q = absurd q.most
div-non_neg (fin false m e) (fin true n g) p q = absurd q.most
div-non_neg (fin false m e) (fin false zero g) p q =
    let l : 1 * 1 * down g ≤ 0 * up g * 1 = or-le (1 * 1 * down g) (0 * up g * 1) q.least in
    absurd (lt_irrefl 0 (omega (arith, down_pos g, l)))
div-non_neg (fin false m e) (fin false (suc n) g) p q = rw (ne_eqb (suc n) 0 (omega arith)) (round-non_neg binary32 (m * up e * down g) (suc n * up g * down e))

pub step_range : (hz rate : ℕ) → hz < 4294967296 → rate < 4294967296 → T (is_step (step_of hz rate))
unfolding step_of of_int
step_range hz rate h k =
    at_most→step (step_of hz rate)
    (clamped (round binary32 false hz 1 ⊘ round binary32 false (max rate 1) 1)
    (div-non_neg (round binary32 false hz 1) (round binary32 false (max rate 1) 1) (u32-at_most hz h) (divisor rate k)))

-- ---- 0 Hz
zero-over : (y : Float) → Divisor y → fin false 0 (pos 0) ⊘ y ≡ fin false 0 (pos 0)
unfolding at_most div le lt eq
zero-over nan q = absurd q.most
zero-over (inf s) q = absurd q.most
zero-over (fin true n g) q = absurd q.most
zero-over (fin false zero g) q =
    let l : 1 * 1 * down g ≤ 0 * up g * 1 = or-le (1 * 1 * down g) (0 * up g * 1) q.least in
    absurd (lt_irrefl 0 (omega (arith, down_pos g, l)))
zero-over (fin false (suc n) g) q =
    rw (ne_eqb (suc n) 0 (omega arith))
    (round_same binary32 false (0 * 1 * down g) (suc n * up g * 1) 0 1 (mul-pos (mul-pos (zero-lt-suc n) (up_pos g)) (omega arith)) (omega arith) (omega arith) ∙ zero_is)

zero_held : held_to_f (lit 0 1) (lit 499 1000) (fin false 0 (pos 0)) ≡ lit 0 1
unfolding held_to_f lt round
zero_held = refl

pub step-zero : (rate : ℕ) → rate < 4294967296 → step_of 0 rate ≡ lit 0 1
unfolding step_of of_int
step-zero rate h = rw (zero_is, zero-over (round binary32 false (max rate 1) 1) (divisor rate h)) zero_held

-- ---- above 16,777,216 Hz
least-is : round binary32 false 16777216 1 ≡ fin false 1 (pos 24)
unfolding round
least-is = refl

rate-is : round binary32 false 65537 1 ≡ fin false 65537 (pos 0)
unfolding round
rate-is = refl

quotient_is : round binary32 false 255 1 ≡ fin false 255 (pos 0)
unfolding round
quotient_is = refl

quotient-bound : (a c b d : ℕ) → 16777216 * c ≤ a → b ≤ 65537 * d → 255 * (b * c) ≤ a * d * 1
quotient-bound a c b d h k =
    let x : 16777216 * c * d ≤ a * d = mul-le-mul_right d h in
    let y : b * c ≤ 65537 * d * c = mul-le-mul_right c k in
    omega arith

over-hi : (x : Float) → T (le (fin false 255 (pos 0)) x) → lt hi x ≡ true
unfolding le lt eq
over-hi nan t = absurd t
over-hi (inf true) t = absurd t
over-hi (inf false) t = refl
over-hi (fin true m e) t = absurd (apart 255 m e (omega arith) t)
over-hi (fin false m e) t =
    let l : 255 * 1 * down e ≤ m * up e * 1 = or-le (255 * 1 * down e) (m * up e * 1) t in
    lt-ltb (8371831 * 1 * down e) (m * up e * 16777216) (omega (arith, down_pos e))

quotient-large : (x y : Float) → T (le (fin false 1 (pos 24)) x) → T (at_most 4294967296 1 x) → T (at_most 65537 1 y) → Divisor y → T (le (fin false 255 (pos 0)) (x ⊘ y))
unfolding at_most div le lt eq
quotient-large nan y g p q d = absurd p
quotient-large (inf s) y g p q d = absurd p
quotient-large (fin true m e) y g p q d = absurd p
quotient-large (fin false m e) nan g p q d = absurd q
quotient-large (fin false m e) (inf s) g p q d = absurd q
quotient-large (fin false m e) (fin true n h) g p q d = absurd q
quotient-large (fin false m e) (fin false zero h) g p q d =
    let l : 1 * 1 * down h ≤ 0 * up h * 1 = or-le (1 * 1 * down h) (0 * up h * 1) d.least in
    absurd (lt_irrefl 0 (omega (arith, down_pos h, l)))
quotient-large (fin false m e) (fin false (suc n) h) g p q d =
    let a : 1 * 16777216 * down e ≤ m * up e * 1 = or-le (1 * 16777216 * down e) (m * up e * 1) g in
    let b : suc n * up h * 1 ≤ 65537 * down h = leb→le (suc n * up h * 1) (65537 * down h) q in
    rw (ne_eqb (suc n) 0 (omega arith))
    (round-down (m * up e * down h) (suc n * up h * down e) 255 1 (mul-pos (mul-pos (zero-lt-suc n) (up_pos h)) (down_pos e)) (omega arith)
    (quotient-bound (m * up e) (down e) (suc n * up h) (down h) (omega arith) (omega arith)) quotient_is)

large-held : (x : Float) → T (non_neg x) → T (le (fin false 255 (pos 0)) x) → held_to_f (lit 0 1) (lit 499 1000) x ≡ lit 499 1000
unfolding held_to_f
large-held x p t = rw (not-below-zero x p, hi-is, over-hi x t)

pub step-large : (hz rate : ℕ) → 16777216 < hz → hz < 4294967296 → rate ≤ 65537 → step_of hz rate ≡ lit 499 1000
unfolding step_of of_int
step-large hz rate g h k =
    let x = round binary32 false hz 1 in
    let y = round binary32 false (max rate 1) 1 in
    let d = divisor rate (omega arith) in
    large-held (x ⊘ y) (div-non_neg x y (u32-at_most hz h) d)
    (quotient-large x y (round-down hz 1 16777216 1 (omega arith) (omega arith) (omega arith) least-is) (u32-at_most hz h)
    (round-at_most (max rate 1) 1 65537 1 65537 (pos 0) (omega arith) (omega arith) (omega arith) rate-is) d)
