-- Sums and differences of phases in units of 2^−149, of which every binary32 is a whole number. Assumes nothing.
use mathlib.Core.Path.{◌≡◌, refl, sym, ap, ◌∙◌, subst}
use Prim.Native.Nat.{ℕ, zero, suc, ◌+◌, ◌-◌, ◌*◌, ◌^◌, ◌≤◌, ◌<◌}
use native.Mathlib.Nat.{mul_comm, mul_assoc, mul_right_comm, mul-le-mul_right, mul-lt-mul_of_pos_right, lt_of_mul-lt-mul_right, le_of_mul-le-mul_right, lt_of_not-le, not-le_of_lt, le_trans, le_of_eq, lt_of_lt_of_le, lt_of_le_of_lt, mul-pos, eq_of_mul-eq-mul_right, mul-one, one-mul}
use native.Mathlib.Omega.{arith}
use mathlib.Core.Bool.{true, false, true≢false}
use borrow.Author.Tests.{le-ltb}
use lib.IntN.{ℤ, pos, negsuc}
use lib.Dec.{T, ltb→lt, leb→le}
use lib.Pow.{pow-add, pow_pos, pow_mono, shl_lt}
use lib.Ieee.{Float, nan, inf, fin, binary32, up, down, round, add, sub, neg, sum, le, lt, eq, fits}
use lib.Ieee.Digits.{back}
use lib.Ieee.Fits.{down_pos}
use lib.Ieee.Exact.{HasValue, round_exact}
use lib.Ieee.Scale.{round_same}
use Rattle.laws.specs.F32.{◌⊕◌, ◌⊖◌}
use Rattle.laws.proofs.F32.{or-le}
use Rattle.laws.proofs.Rounding.{is-short}
use Rattle.polyblep.proofs.Ranges.{less_than, at_most}

-- 1, in these units
abbrev pub U : ℕ
U = 2 ^ 149

-- 2^−26
abbrev pub P : ℕ
P = 2 ^ 123

abbrev pub one : Float
one = fin false 1 (pos 0)

-- ---- a sum and a difference as one rounding
cross : (a b c d u v l : ℕ) → a * l ≡ u * c → b * l ≡ v * d → (a * d + b * c) * l ≡ (u + v) * (c * d)
cross a b c d u v l p q =
    let x : a * d * l ≡ u * (c * d) = mul_right_comm a d l ∙ ap (λ (z : ℕ). z * d) p ∙ mul_assoc u c d in
    let y : b * c * l ≡ v * (c * d) = mul_right_comm b c l ∙ ap (λ (z : ℕ). z * c) q ∙ mul_assoc v d c ∙ ap (λ (z : ℕ). v * z) (mul_comm d c) in
    omega arith

pub add-value : (x d : Float) (l u v : ℕ) → 0 < l → HasValue x false u l → HasValue d false v l → x ⊕ d ≡ round binary32 false (u + v) l
unfolding add sum
add-value nan d l u v L p q = absurd p
add-value (inf s) d l u v L p q = absurd p
add-value (fin true m e) d l u v L p q = absurd (true≢false p.0)
add-value (fin false m e) nan l u v L p q = absurd q
add-value (fin false m e) (inf s) l u v L p q = absurd q
add-value (fin false m e) (fin true n g) l u v L p q = absurd (true≢false q.0)
add-value (fin false m e) (fin false n g) l u v L p q =
    round_same binary32 false (m * up e * down g + n * up g * down e) (down e * down g) (u + v) l (mul-pos (down_pos e) (down_pos g)) L
    (cross (m * up e) (n * up g) (down e) (down g) u v l p.1 q.1)

shift : (a c l w k j : ℕ) → a ≡ c + k → w ≡ l + j → a * l ≡ w * c → k * l ≡ j * c
shift a c l w k j h i e =
    let x : (c + k) * l ≡ (l + j) * c = subst (λ (z : ℕ). z * l ≡ (l + j) * c) h (subst (λ (z : ℕ). a * l ≡ z * c) i e) in
    omega arith

pub sub-value : (p : Float) (l w : ℕ) → 0 < l → l ≤ w → HasValue p false w l → p ⊖ one ≡ round binary32 false (w - l) l
unfolding sub neg add sum
sub-value nan l w L h v = absurd v
sub-value (inf s) l w L h v = absurd v
sub-value (fin true m e) l w L h v = absurd (true≢false v.0)
sub-value (fin false m e) l w L h v =
    let a = m * up e in
    let c = down e in
    let k : c * l ≤ a * l = le_trans (le_of_eq (mul_comm c l)) (le_trans (mul-le-mul_right c h) (le_of_eq (sym v.1))) in
    let ge : c ≤ a = le_of_mul-le-mul_right k L in
    let s : (a - c) * l ≡ (w - l) * c = shift a c l w (a - c) (w - l) (omega arith) (omega arith) v.1 in
    rw (le-ltb (m * up e * 1) (1 * 1 * down e) (omega arith))
    (round_same binary32 false (m * up e * 1 - 1 * 1 * down e) (down e * 1) (w - l) l (omega (arith, down_pos e)) L (simp (mul-one, one-mul) s))

-- ---- where a float lies, in units. `omega` stops at numbers of more than 38 digits, so 2^149 is a variable l here.
most-arith : (a b p u c l : ℕ) → a * b ≤ p * c → a * l ≡ u * c → u * b * c ≤ p * l * c
most-arith a b p u c l h e =
    let x : a * b * l ≤ p * c * l = mul-le-mul_right l h in
    let y : a * l * b ≡ u * c * b = ap (λ (z : ℕ). z * b) e in
    omega arith

least-arith : (a b p u c l : ℕ) → b * c ≤ a * p → a * l ≡ u * c → b * l * c ≤ u * p * c
least-arith a b p u c l h e =
    let x : b * c * l ≤ a * p * l = mul-le-mul_right l h in
    let y : a * l * p ≡ u * c * p = ap (λ (z : ℕ). z * p) e in
    omega arith

less-one : (a c : ℕ) → a * 1 < 1 * c → a < c
less-one a c h = omega arith

pub below-units : (x : Float) (u : ℕ) → T (less_than 1 1 x) → HasValue x false u U → u < U
unfolding less_than
below-units nan u t v = absurd t
below-units (inf s) u t v = absurd t
below-units (fin true m e) u t v = absurd t
below-units (fin false m e) u t v =
    let h : m * up e * 1 < 1 * down e = ltb→lt (m * up e * 1) (1 * down e) t in
    let k : m * up e * U < down e * U = mul-lt-mul_of_pos_right (less-one (m * up e) (down e) h) (pow_pos 149) in
    lt_of_not-le (λ (g : U ≤ u). not-le_of_lt k (le_trans (le_of_eq (mul_comm (down e) U)) (le_trans (mul-le-mul_right (down e) g) (le_of_eq (sym v.1)))))

-- at most p ÷ b
pub most-units : (p b : ℕ) (x : Float) (u : ℕ) → T (at_most p b x) → HasValue x false u U → u * b ≤ p * U
unfolding at_most
most-units p b nan u t v = absurd t
most-units p b (inf s) u t v = absurd t
most-units p b (fin true m e) u t v = absurd t
most-units p b (fin false m e) u t v =
    le_of_mul-le-mul_right (most-arith (m * up e) b p u (down e) U (leb→le (m * up e * b) (p * down e) t) v.1) (down_pos e)

-- at least a × 2^k
pub least-units : (a : ℕ) (k : ℤ) (p : Float) (w : ℕ) → T (le (fin false a k) p) → HasValue p false w U → a * up k * U ≤ w * down k
unfolding le lt eq
least-units a k nan w t v = absurd v
least-units a k (inf s) w t v = absurd v
least-units a k (fin true m e) w t v = absurd (true≢false v.0)
least-units a k (fin false m e) w t v =
    le_of_mul-le-mul_right (least-arith (m * up e) (a * up k) (down k) w (down e) U (or-le (a * up k * down e) (m * up e * down k) t) v.1) (down_pos e)

-- ---- a value from 2^−j up is a whole number of 2^−(23 + j)
module _ (j : ℕ) (J : j ≤ 3) where
  upto : (k : ℕ) → k < 24 + j → k ≤ 23 + j
  upto k h = omega arith

  whole : 2 ^ (23 + j) * 2 ^ (126 - j) ≡ U
  whole = sym (pow-add 2 (23 + j) (126 - j)) ∙ ap (λ (z : ℕ). 2 ^ z) (let e : 23 + j + (126 - j) ≡ 149 = omega arith in e)

  grain : (m k w : ℕ) → m < 2 ^ 24 → m * U ≡ w * 2 ^ k → U ≤ w * 2 ^ j → (t : ℕ) × (w ≡ t * 2 ^ (126 - j))
  grain m k w M e h =
      let a : 2 ^ k * U ≤ m * 2 ^ j * U =
      le_trans (le_of_eq (mul_comm (2 ^ k) U)) (le_trans (mul-le-mul_right (2 ^ k) h) (le_of_eq (mul_right_comm w (2 ^ j) (2 ^ k) ∙ ap (λ (z : ℕ). z * 2 ^ j) (sym e) ∙ mul_right_comm m U (2 ^ j)))) in
      let b : 2 ^ k ≤ m * 2 ^ j = le_of_mul-le-mul_right a (pow_pos 149) in
      let c : k < 24 + j = lt_of_not-le (λ (g : 24 + j ≤ k). not-le_of_lt (shl_lt 24 j M) (le_trans (pow_mono g) b)) in
      let i : 2 ^ (23 + j - k) * 2 ^ k ≡ 2 ^ (23 + j) = sym (pow-add 2 (23 + j - k) k) ∙ ap (λ (z : ℕ). 2 ^ z) (back (23 + j) k (upto k c)) in
      let l : m * 2 ^ (23 + j - k) * 2 ^ (126 - j) * 2 ^ k ≡ m * U =
      mul_right_comm (m * 2 ^ (23 + j - k)) (2 ^ (126 - j)) (2 ^ k) ∙ ap (λ (z : ℕ). z * 2 ^ (126 - j)) (mul_assoc m (2 ^ (23 + j - k)) (2 ^ k) ∙ ap (λ (z : ℕ). m * z) i)
      ∙ mul_assoc m (2 ^ (23 + j)) (2 ^ (126 - j)) ∙ ap (λ (z : ℕ). m * z) whole in
      (m * 2 ^ (23 + j - k), eq_of_mul-eq-mul_right (2 ^ k) (pow_pos k) w (m * 2 ^ (23 + j - k) * 2 ^ (126 - j)) (sym e ∙ sym l))

  pub grains : (p : Float) (w : ℕ) → T (fits binary32 p) → HasValue p false w U → U ≤ w * 2 ^ j → (t : ℕ) × (w ≡ t * 2 ^ (126 - j))
  grains nan w f v h = absurd v
  grains (inf s) w f v h = absurd v
  grains (fin s m (pos k)) w f v h =
      (m * 2 ^ k * 2 ^ (23 + j), sym (mul-one w) ∙ sym v.1 ∙ ap (λ (z : ℕ). m * 2 ^ k * z) (sym whole) ∙ sym (mul_assoc (m * 2 ^ k) (2 ^ (23 + j)) (2 ^ (126 - j))))
  grains (fin s zero (negsuc k)) w f v h = grain 0 (suc k) w (pow_pos 24) v.1 h
  grains (fin s (suc m) (negsuc k)) w f v h = grain (suc m) (suc k) w (is-short s m (negsuc k) f) (ap (λ (z : ℕ). z * U) (sym (mul-one (suc m))) ∙ v.1) h

-- so what is left after a turn is exact
take-off : (t w u g : ℕ) → w ≡ t * g → u ≡ 8388608 * g → 8388608 ≤ t → w - u ≡ (t - 8388608) * g
take-off t w u g e f h =
    let k = t - 8388608 in
    let i : t * g ≡ (8388608 + k) * g = ap (λ (z : ℕ). z * g) (let j : t ≡ 8388608 + k = omega arith in j) in
    omega arith

fewer : (t : ℕ) → t < 16777216 → t - 8388608 < 16777216
fewer t h = omega arith

pub left-exact : (t w : ℕ) → w ≡ t * 2 ^ 126 → U ≤ w → w < 2 ^ 150 → HasValue (round binary32 false (w - U) U) false (w - U) U
left-exact t w e h l =
    let few : t < 2 ^ 24 = lt_of_mul-lt-mul_right (2 ^ 126) (lt_of_le_of_lt (le_of_eq (sym e)) l) in
    let many : 8388608 ≤ t = le_of_mul-le-mul_right (le_trans h (le_of_eq e)) (pow_pos 126) in
    let q : t - 8388608 < 2 ^ 24 = fewer t few in
    round_exact binary32 false (w - U) U (t - 8388608) 126 (pow_pos 149) q (lt_of_lt_of_le (shl_lt 24 126 q) (pow_mono (leb→le 150 277 tt)))
    (ap (λ (z : ℕ). z * U) (take-off t w U (2 ^ 126) e refl many))
