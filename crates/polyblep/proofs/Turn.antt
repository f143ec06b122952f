-- The source brings the sine's angle to 0..2 pi by a remainder. The angle of a phase is at least 0 and below 2 pi, so the
-- remainder is the angle, to the last bit, its sign at −0 too. Assumes nothing.
use Rattle.std.proofs.Common.{◌≡◌, ℕ, zero, suc, ◌*◌, ◌^◌, ◌<◌, ◌≤◌, true, false, cond, T, ℤ, pos, negsuc, sym, refl, ◌∙◌, subst, inl, inr, mul-le-mul_right, mod-eq_of_lt, mul-pos, mul-one, arith, le→leb, ltb→lt, leb→le, pow_pos}
use lib.Ieee.{Float, nan, inf, fin, binary32, up, down, round, mul, rem, lt, neg, fits}
use lib.Ieee.Fits.{down_pos, mul-fits}
use lib.Ieee.Scale.{round_same}
use Rattle.laws.specs.F32.{◌⊖◌, ◌⊗◌, lit}
use Rattle.laws.proofs.Rounding.{is-short, not-below-zero, own}
use Rattle.polyblep.specs.Ranges.{is_phase}
use Rattle.polyblep.specs.Sine.{pi, two_pi, arch, turned, sine_of}
use Rattle.polyblep.specs.Waves.{sine_part}
use Rattle.polyblep.proofs.Ranges.{MinusZero, minus, less_than, at_most, round-at_most, round-minus, at_most-non_neg, phase-cases}

-- the angle of a phase
abbrev pub angle : Float → Float
angle t = t ⊗ lit 2 1 ⊗ pi

-- ---- a phase below 1 is at most 1 − 2^−24
last-arith : (m p : ℕ) → m < p → m < 16777216 → m * 16777216 ≤ 16777215 * p
last-arith m p h k = omega arith

no_whole : (m p : ℕ) → 0 < p → suc m * p * 1 < 1 * 1 → ⊥
no_whole m p P h = let x : 1 * p ≤ suc m * p = mul-le-mul_right p (omega arith) in omega arith

last : (x : Float) → T (fits binary32 x) → T (less_than 1 1 x) → T (at_most 16777215 16777216 x)
unfolding less_than at_most
last nan f t = absurd t
last (inf s) f t = absurd t
last (fin true m e) f t = absurd t
last (fin false zero e) f t = le→leb (0 * up e * 16777216) (16777215 * down e) (omega arith)
last (fin false (suc m) (pos k)) f t = absurd (no_whole m (2 ^ k) (pow_pos k) (ltb→lt (suc m * 2 ^ k * 1) (1 * 1) t))
last (fin false (suc m) (negsuc k)) f t =
    let h : suc m * 1 * 1 < 1 * 2 ^ suc k = ltb→lt (suc m * 1 * 1) (1 * 2 ^ suc k) t in
    le→leb (suc m * 1 * 16777216) (16777215 * 2 ^ suc k)
    (subst (λ (z : ℕ). z * 16777216 ≤ 16777215 * 2 ^ suc k) (sym (mul-one (suc m)))
    (last-arith (suc m) (2 ^ suc k) (plain (suc m) (2 ^ suc k) h) (is-short false m (negsuc k) f)))
  where
    plain : (a b : ℕ) → a * 1 * 1 < 1 * b → a < b
    plain a b h = omega arith

-- ---- x is at most p ÷ q, so x times n × 2^g is at most the rounded product
scale-arith : (a c p q n k : ℕ) → a * q ≤ p * c → a * n * (q * k) ≤ p * n * (c * k)
scale-arith a c p q n k h = let x : a * q * (n * k) ≤ p * c * (n * k) = mul-le-mul_right (n * k) h in omega arith

times : (x : Float) (p q n : ℕ) (g : ℤ) (r : ℕ) (h : ℤ) → 0 < q → T (at_most p q x) → round binary32 false (p * (n * up g)) (q * down g) ≡ fin false r h → T (at_most (r * up h) (down h) (x ⊗ fin false n g))
unfolding at_most mul
times nan p q n g r h Q t e = absurd t
times (inf s) p q n g r h Q t e = absurd t
times (fin true m d) p q n g r h Q t e = absurd t
times (fin false m d) p q n g r h Q t e =
    round-at_most (m * up d * (n * up g)) (down d * down g) (p * (n * up g)) (q * down g) r h (mul-pos (down_pos d) (down_pos g)) (mul-pos Q (down_pos g))
    (scale-arith (m * up d) (down d) p q (n * up g) (down g) (leb→le (m * up d * q) (p * down d) t)) e

two_is : lit 2 1 ≡ fin false 1 (pos 1)
unfolding round
two_is = refl

pi-is : pi ≡ fin false 13176795 (negsuc 21)
unfolding round
pi-is = refl

two_pi-is : two_pi ≡ fin false 13176795 (negsuc 20)
unfolding round mul
two_pi-is = refl

first-is : round binary32 false (16777215 * (1 * up (pos 1))) (16777216 * down (pos 1)) ≡ fin false 16777215 (negsuc 22)
unfolding round
first-is = refl

second_is : round binary32 false (16777215 * (13176795 * up (negsuc 21))) (8388608 * down (negsuc 21)) ≡ fin false 6588397 (negsuc 19)
unfolding round
second_is = refl

angle-small : (x : Float) → T (fits binary32 x) → T (less_than 1 1 x) → T (at_most 6588397 1048576 (angle x))
angle-small x f t =
    rw (two_is, pi-is)
    (times (x ⊗ fin false 1 (pos 1)) 16777215 8388608 13176795 (negsuc 21) 6588397 (negsuc 19) (omega arith)
    (times x 16777215 16777216 1 (pos 1) 16777215 (negsuc 22) (omega arith) (last x f t) first-is) second_is)

-- ---- so the remainder is the number itself
rem-arith : (a c : ℕ) → a * 1048576 ≤ 6588397 * c → 0 < c → a * 2097152 < 13176795 * 1 * c
rem-arith a c h C = omega arith

cross : (a c k : ℕ) → a * k * c ≡ a * (c * k)
cross a c k = omega arith

rem-own : (x : Float) → T (fits binary32 x) → T (at_most 6588397 1048576 x) → rem binary32 x (fin false 13176795 (negsuc 20)) ≡ x
unfolding rem at_most
rem-own nan f t = absurd t
rem-own (inf s) f t = absurd t
rem-own (fin true m e) f t = absurd t
rem-own (fin false m e) f t =
    let l : m * up e * 2097152 < 13176795 * 1 * down e = rem-arith (m * up e) (down e) (leb→le (m * up e * 1048576) (6588397 * down e) t) (down_pos e) in
    rw (mod-eq_of_lt l)
    (round_same binary32 false (m * up e * 2097152) (down e * 2097152) (m * up e) (down e) (mul-pos (down_pos e) (pow_pos 21)) (down_pos e) (cross (m * up e) (down e) 2097152) ∙ own m e f)

plus-remainder : (t : Float) → T (fits binary32 t) → T (less_than 1 1 t) → rem binary32 (angle t) two_pi ≡ angle t
plus-remainder t f h = rw two_pi-is (rem-own (angle t) (mul-fits binary32 (t ⊗ lit 2 1) pi) (angle-small t f h))

-- nor is the angle turned by 2 pi
plus-turned : (t : Float) → T (fits binary32 t) → T (less_than 1 1 t) → turned (angle t) ≡ angle t
unfolding turned
plus-turned t f h = rw (plus-remainder t f h, not-below-zero (angle t) (at_most-non_neg (angle t) 6588397 1048576 (angle-small t f h)))

-- ---- the angle of −0 is −0
minus-times : (e : ℤ) (n : ℕ) (g : ℤ) → fin true zero e ⊗ fin false n g ≡ fin true 0 (pos 0)
unfolding mul
minus-times e n g = round-minus (0 * up e * (n * up g)) (down e * down g) (omega arith) (mul-pos (down_pos e) (down_pos g))

minus-angle : (t : Float) → MinusZero t → angle t ≡ fin true 0 (pos 0)
minus-angle t (minus e) = rw (two_is, pi-is, minus-times e 1 (pos 1)) (minus-times (pos 0) 13176795 (negsuc 21))

minus-turned : turned (fin true 0 (pos 0)) ≡ fin true 0 (pos 0)
unfolding turned rem mul round lt
minus-turned = refl

pub turned-is-identity : (t : Float) → T (fits binary32 t) → T (is_phase t) → turned (angle t) ≡ angle t
turned-is-identity t f h =
    elim (phase-cases t h) [ inl z ↦ rw (minus-angle t z) minus-turned | inr l ↦ plus-turned t f l ]

-- the sine with neither
pub sine-is : (t : Float) → T (fits binary32 t) → T (is_phase t) → sine_part t ≡ cond (lt pi (angle t)) (arch (neg (lit 1 1)) (angle t ⊖ pi)) (arch (lit 1 1) (angle t))
unfolding sine_of
sine-is t f h = rw (turned-is-identity t f h)
