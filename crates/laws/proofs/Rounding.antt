-- What rounding to binary32 gives: its sign, bounds by monotony, and that a float is what its own fraction rounds to.
-- Assumes nothing.
use mathlib.Core.Path.{◌≡◌, refl, sym, ap, ◌∙◌, subst}
use Prim.Native.Nat.{ℕ, zero, suc, ◌+◌, ◌-◌, ◌*◌, ◌%◌, ◌^◌, ◌≤◌, ◌<◌}
use native.Mathlib.Nat.{mul_comm, mul_assoc, mul_left_comm, le_of_eq, lt_irrefl, mul-pos, mul-one, one-mul, pow-succ', pow-suc, eq_of_mul-eq-mul_right, zero-lt-suc, mul-lt-mul_of_pos_right, lt_of_le_of_lt, lt_of_lt_of_le, lt_of_not-le, zero-mul}
use native.Mathlib.Omega.{arith}
use mathlib.Core.Bool.{Bool, true, false, not, cond, ◌&&◌, true≢false}
use borrow.Author.Tests.{le-ltb}
use lib.IntN.{ℤ, pos, negsuc}
use lib.Dec.{T, ltb, leb, eqb, ltb→lt, leb→le, eqb→eq}
use lib.Pow.{pow-add, pow_pos, pow_mono, pow-lt, shl_lt}
use lib.Ieee.{Float, nan, inf, fin, Format, binary32, prec, low, emax, up, down, odd, units, round, lt, le, fits}
use lib.Ieee.Digits.{back}
use lib.Ieee.Exact.{HasValue, round_exact}
use lib.Ieee.Fits.{down_pos, up_pos, and_l, and_r, round_is, round-fits}
use lib.Ieee.Order.{round_mono, kept, drop}
use Rattle.laws.specs.F32.{lit}
use Rattle.laws.proofs.F32.{zero_is}

-- x is no NaN and has no minus
abbrev pub non_neg : Float → Bool
non_neg nan = false
non_neg (inf s) = not s
non_neg (fin s m e) = not s

at_zero : (x : Float) → T (non_neg x) → lt x (fin false 0 (pos 0)) ≡ false
unfolding lt
at_zero nan p = absurd p
at_zero (inf true) p = absurd p
at_zero (inf false) p = refl
at_zero (fin true m e) p = absurd p
at_zero (fin false m e) p = le-ltb (m * up e * 1) (0 * 1 * down e) (omega arith)

pub not-below-zero : (x : Float) → T (non_neg x) → lt x (lit 0 1) ≡ false
not-below-zero x p = rw zero_is (at_zero x p)

odd-non_neg : (d q k l : ℕ) → T (non_neg (odd d false q k l))
unfolding odd
odd-non_neg d zero k l = tt
odd-non_neg d (suc q) k l = tt

units-non_neg : (f : Format) (q k : ℕ) → T (non_neg (units f false q k))
unfolding units
units-non_neg f q k = go (ltb (q * 2 ^ k) (2 ^ (low f + suc (emax f))))
  where
    go : (b : Bool) → T (non_neg (cond b (odd (suc (prec f)) false q k (low f)) (inf false)))
    go true = odd-non_neg (suc (prec f)) q k (low f)
    go false = tt

pub round-non_neg : (f : Format) (a c : ℕ) → T (non_neg (round f false a c))
round-non_neg f a c = rw (round_is f false a c) (units-non_neg f (kept (prec f) (a * 2 ^ low f) c) (drop (prec f) (a * 2 ^ low f) c))

-- a ÷ c is at most b ÷ d, which rounds to y; and at least
pub round_up : {y : Float} (a c b d : ℕ) → 0 < c → 0 < d → a * d ≤ b * c → round binary32 false b d ≡ y → T (le (round binary32 false a c) y)
round_up a c b d C D h e = rw e at (round_mono binary32 a c b d C D h)

pub round-down : {y : Float} (a c b d : ℕ) → 0 < c → 0 < d → b * c ≤ a * d → round binary32 false b d ≡ y → T (le y (round binary32 false a c))
round-down a c b d C D h e = rw e at (round_mono binary32 b d a c D C h)

-- ---- what fits says
module _ (s : Bool) (m : ℕ) (e : ℤ) (t : T (fits binary32 (fin s (suc m) e))) where
  parts : T (eqb (suc m % 2) 1 && ltb (suc m) (2 ^ 24) && leb (down e) (2 ^ 149))
  unfolding fits
  parts = and_l (eqb (suc m % 2) 1 && ltb (suc m) (2 ^ 24) && leb (down e) (2 ^ 149)) (ltb (suc m * up e) (2 ^ 128 * down e)) t

  front : T (eqb (suc m % 2) 1 && ltb (suc m) (2 ^ 24))
  front = and_l (eqb (suc m % 2) 1 && ltb (suc m) (2 ^ 24)) (leb (down e) (2 ^ 149)) parts

  is_odd : suc m % 2 ≡ 1
  is_odd = eqb→eq (suc m % 2) 1 (and_l (eqb (suc m % 2) 1) (ltb (suc m) (2 ^ 24)) front)

  pub is-short : suc m < 16777216
  is-short = ltb→lt (suc m) (2 ^ 24) (and_r (eqb (suc m % 2) 1) (ltb (suc m) (2 ^ 24)) front)

  is-fine : down e ≤ 2 ^ 149
  is-fine = leb→le (down e) (2 ^ 149) (and_r (eqb (suc m % 2) 1 && ltb (suc m) (2 ^ 24)) (leb (down e) (2 ^ 149)) parts)

  is-under : suc m * up e < 2 ^ 128 * down e
  unfolding fits
  is-under = ltb→lt (suc m * up e) (2 ^ 128 * down e) (and_r (eqb (suc m % 2) 1 && ltb (suc m) (2 ^ 24) && leb (down e) (2 ^ 149)) (ltb (suc m * up e) (2 ^ 128 * down e)) t)

-- ---- a value that fits is what its own fraction rounds to
even_odd : (m t : ℕ) → m % 2 ≡ 1 → m ≡ 2 * t → ⊥
even_odd m t o h = omega arith

odd_pow : (m n a b : ℕ) → m % 2 ≡ 1 → n % 2 ≡ 1 → m * 2 ^ a ≡ n * 2 ^ b → (m ≡ n) × (a ≡ b)
odd_pow m n zero zero o p h = (sym (mul-one m) ∙ h ∙ mul-one n, refl)
odd_pow m n zero (suc b) o p h = absurd (even_odd m (n * 2 ^ b) o (sym (mul-one m) ∙ h ∙ ap (λ (x : ℕ). n * x) (pow-succ' 2 b) ∙ mul_left_comm n 2 (2 ^ b)))
odd_pow m n (suc a) zero o p h = absurd (even_odd n (m * 2 ^ a) p (sym (mul-one n) ∙ sym h ∙ ap (λ (x : ℕ). m * x) (pow-succ' 2 a) ∙ mul_left_comm m 2 (2 ^ a)))
odd_pow m n (suc a) (suc b) o p h =
    let r = odd_pow m n a b o p (eq_of_mul-eq-mul_right 2 (zero-lt-suc 1) (m * 2 ^ a) (n * 2 ^ b)
    (mul_assoc m (2 ^ a) 2 ∙ ap (λ (x : ℕ). m * x) (sym (pow-suc 2 a)) ∙ h ∙ ap (λ (x : ℕ). n * x) (pow-suc 2 b) ∙ sym (mul_assoc n (2 ^ b) 2))) in
    (r.0, ap suc r.1)

-- two odd significands with equal values
same-exp : (m n : ℕ) (e g : ℤ) → m % 2 ≡ 1 → n % 2 ≡ 1 → n * up g * down e ≡ m * up e * down g → (n ≡ m) × (g ≡ e)
same-exp m n (pos j) (pos k) o p h =
    let r = odd_pow n m k j p o (sym (mul-one (n * 2 ^ k)) ∙ h ∙ mul-one (m * 2 ^ j)) in (r.0, ap pos r.1)
same-exp m n (pos j) (negsuc k) o p h =
    let r = odd_pow n m 0 (suc k + j) p o (simp mul-one (simp mul-one at h) ∙ mul_assoc m (2 ^ j) (2 ^ suc k) ∙ ap (λ (z : ℕ). m * z) (mul_comm (2 ^ j) (2 ^ suc k) ∙ sym (pow-add 2 (suc k) j))) in
    absurd (gone k j r.1)
  where
    gone : (k j : ℕ) → 0 ≡ suc k + j → ⊥
    gone k j h = omega arith
same-exp m n (negsuc j) (pos k) o p h =
    let r = odd_pow n m (k + suc j) 0 p o (ap (λ (z : ℕ). n * z) (pow-add 2 k (suc j)) ∙ sym (mul_assoc n (2 ^ k) (2 ^ suc j)) ∙ h ∙ mul-one (m * 1)) in
    absurd (gone k j r.1)
  where
    gone : (k j : ℕ) → k + suc j ≡ 0 → ⊥
    gone k j h = omega arith
same-exp m n (negsuc j) (negsuc k) o p h =
    let r = odd_pow n m (suc j) (suc k) p o (simp mul-one at h) in (r.0, ap negsuc (less j k r.1))
  where
    less : (j k : ℕ) → suc j ≡ suc k → k ≡ j
    less j k h = omega arith

unique : (y : Float) (m : ℕ) (e : ℤ) → T (fits binary32 y) → T (fits binary32 (fin false (suc m) e)) → HasValue y false (suc m * up e) (down e) → y ≡ fin false (suc m) e
unique nan m e f g v = absurd v
unique (inf s) m e f g v = absurd v
unique (fin true n d) m e f g v = absurd (true≢false v.0)
unique (fin false zero d) m e f g v = absurd (lt_irrefl 0 (subst (λ (z : ℕ). 0 < z) (sym v.1 ∙ ap (λ (z : ℕ). z * down e) (zero-mul (up d)) ∙ zero-mul (down e)) (mul-pos (mul-pos (zero-lt-suc m) (up_pos e)) (down_pos d))))
unique (fin false (suc n) d) m e f g v =
    let r = same-exp (suc m) (suc n) e d (is_odd false m e g) (is_odd false n d f) v.1 in
    cc

fine-exp : (k : ℕ) → 2 ^ k ≤ 2 ^ 149 → k ≤ 149
fine-exp k h = upto (lt_of_not-le (λ (g : 150 ≤ k). lt_irrefl (2 ^ 149) (lt_of_lt_of_le (pow-lt g) h)))
  where
    upto : k < 150 → k ≤ 149
    upto l = omega arith

own-suc : (m : ℕ) (e : ℤ) → T (fits binary32 (fin false (suc m) e)) → HasValue (round binary32 false (suc m * up e) (down e)) false (suc m * up e) (down e)
own-suc m (pos k) f =
    round_exact binary32 false (suc m * 2 ^ k) 1 (suc m) (k + 149) (zero-lt-suc 0) (is-short false m (pos k) f)
    (lt_of_le_of_lt (le_of_eq (ap (λ (z : ℕ). suc m * z) (pow-add 2 k 149) ∙ sym (mul_assoc (suc m) (2 ^ k) (2 ^ 149)))) (mul-lt-mul_of_pos_right (is-under false m (pos k) f) (pow_pos 149)))
    (sym (mul-one (suc m * 2 ^ (k + 149)) ∙ ap (λ (z : ℕ). suc m * z) (pow-add 2 k 149) ∙ sym (mul_assoc (suc m) (2 ^ k) (2 ^ 149))))
own-suc m (negsuc k) f =
    let a = 149 - suc k in
    let i : 2 ^ a * 2 ^ suc k ≡ 2 ^ 149 = sym (pow-add 2 a (suc k)) ∙ ap (λ (z : ℕ). 2 ^ z) (back 149 (suc k) (fine-exp (suc k) (is-fine false m (negsuc k) f))) in
    round_exact binary32 false (suc m * 1) (2 ^ suc k) (suc m) a (pow_pos (suc k)) (is-short false m (negsuc k) f)
    (lt_of_lt_of_le (shl_lt 24 a (is-short false m (negsuc k) f)) (pow_mono (room a k)))
    (ap (λ (z : ℕ). z * 2 ^ 149) (mul-one (suc m)) ∙ ap (λ (z : ℕ). suc m * z) (sym i) ∙ sym (mul_assoc (suc m) (2 ^ a) (2 ^ suc k)))
  where
    room : (a k : ℕ) → 24 + (149 - suc k) ≤ 277
    room a k = omega arith

two_up : (p : ℕ) → 0 < p → 2 * p ≡ 1 → ⊥
two_up p h e = omega arith

flat : (e : ℤ) → up e * down e ≡ 1 → e ≡ pos 0
flat (pos zero) h = refl
flat (pos (suc k)) h = absurd (two_up (2 ^ k) (pow_pos k) (sym (pow-succ' 2 k) ∙ sym (mul-one (2 ^ suc k)) ∙ h))
flat (negsuc k) h = absurd (two_up (2 ^ k) (pow_pos k) (sym (pow-succ' 2 k) ∙ sym (one-mul (2 ^ suc k)) ∙ h))

zero_exp : (e : ℤ) → T (fits binary32 (fin false zero e)) → e ≡ pos 0
unfolding fits
zero_exp e t = flat e (eqb→eq (up e * down e) 1 t)

pub own : (m : ℕ) (e : ℤ) → T (fits binary32 (fin false m e)) → round binary32 false (m * up e) (down e) ≡ fin false m e
own zero e f = rw (zero_exp e f) zero_is
own (suc m) e f = unique (round binary32 false (suc m * up e) (down e)) m e (round-fits binary32 false (suc m * up e) (down e)) f (own-suc m e f)
