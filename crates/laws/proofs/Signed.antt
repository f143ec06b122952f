-- Bounds on signed numbers, by their size in ℕ, which omega reads. nat_abs z is |z|; SFits w z bounds mag z, which is |z| or one less.
-- Assumes nothing.
use mathlib.Core.Path.{◌≡◌, refl, sym, ap, ◌∙◌}
use Prim.Native.Nat.{ℕ, zero, suc, ◌+◌, ◌-◌, ◌*◌, ◌/◌, ◌^◌, ◌≤◌, ◌<◌}
use native.Mathlib.Nat.{zero-div, zero-mul, mod-eq_of_lt, mul-le-mul, div-le_of_le-mul, div-lt_iff_lt-mul, mul-lt-mul_of_pos_left, le-add_right, mul_comm, le_refl, le_trans, lt_of_le_of_lt, le_of_eq, mul-le-mul_left, mul-le-mul_right}
use native.Mathlib.Omega.{arith}
use lib.IntN.{ℤ, pos, negsuc, neg_ℤ, nat_abs, sub_ℕ, neg_ℤ-+ℤ, neg_ℤ-neg_ℤ, +ℤ_comm, +ℤ_idl, ◌+ℤ◌, ◌-ℤ◌, ◌*ℤ◌}
use lib.Signed.{mag, quot_z, shr_z, nat_abs-le, ◌<ℤ◌, ◌≤ℤ◌}
use lib.Dec.{T, ltb, leb, ltb→lt, leb→le}
use mathlib.Core.Bool.{Bool, true, false, cond}
use borrow.Author.Tests.{le-ltb, ltb-true, ltb-false}
use lib.Pow.{pow_pos}
use mir.Syntax.{Width, w8}
use mir.Val.{Fits, SFits, bits, hbits, to_z, of_z}
use mir.ValLaws.{to_z_pos}
use borrow.Author.Rules.{rules}
use Rattle.laws.specs.Whole.{modulo}

pub mag≤abs : (z : ℤ) → mag z ≤ nat_abs z
mag≤abs (pos n) = le_refl n
mag≤abs (negsuc n) = omega arith

-- |z| of a number that fits
pub abs≤ : {w : Width} {z : ℤ} → SFits w z → nat_abs z ≤ 2 ^ hbits w
abs≤ {w} {z} f = nat_abs-le z f.sfits

-- fits, from a bound on |z|: `abs-fits h tt`
pub abs-fits : {w : Width} {z : ℤ} (n : ℕ) → nat_abs z ≤ n → T (ltb n (2 ^ hbits w)) → SFits w z
abs-fits {w} {z} n h t = record { sfits = lt_of_le_of_lt (le_trans (mag≤abs z) h) (ltb→lt n (2 ^ hbits w) t) }

pub abs_neg : (z : ℤ) → nat_abs (neg_ℤ z) ≡ nat_abs z
abs_neg (pos zero) = refl
abs_neg (pos (suc n)) = refl
abs_neg (negsuc n) = refl

pub abs-mul : (a b : ℤ) → nat_abs (a *ℤ b) ≡ nat_abs a * nat_abs b
abs-mul (pos a) (pos b) = refl
abs-mul (pos a) (negsuc b) = abs_neg (pos (a * suc b))
abs-mul (negsuc a) (pos b) = abs_neg (pos (suc a * b))
abs-mul (negsuc a) (negsuc b) = refl

pub mul≤ : (a b : ℤ) (m n : ℕ) → nat_abs a ≤ m → nat_abs b ≤ n → nat_abs (a *ℤ b) ≤ m * n
mul≤ a b m n h k =
    le_trans (le_of_eq (abs-mul a b)) (le_trans (mul-le-mul_right (nat_abs b) h) (mul-le-mul_left m k))

pub mag_shr : (z : ℤ) (m : ℕ) → mag (shr_z z m) ≡ mag z / m
mag_shr (pos a) m = refl
mag_shr (negsuc a) m = refl

-- sums and differences whose sign is known
pub pos-sub : (a b : ℕ) → b ≤ a → pos a -ℤ pos b ≡ pos (a - b)
pos-sub a zero h = ap pos (omega arith)
pos-sub a (suc b) h = ap (λ (t : Bool). cond t (negsuc (suc b - suc a)) (pos (a - suc b))) (le-ltb a (suc b) h)

pub neg-sub : (a b : ℕ) → neg_ℤ (pos a) -ℤ pos b ≡ neg_ℤ (pos (a + b))
neg-sub a b = sym (neg_ℤ-+ℤ (pos a) (pos b))

-- a difference taken the other way round
pub sub-flip : (a b : ℤ) → neg_ℤ (a -ℤ b) ≡ b -ℤ a
sub-flip a b = rw (neg_ℤ-+ℤ a (neg_ℤ b), neg_ℤ-neg_ℤ b, +ℤ_comm (neg_ℤ a) b)

-- 0 - z, as the code writes -z
pub zero-sub : (z : ℤ) → pos 0 -ℤ z ≡ neg_ℤ z
zero-sub z = +ℤ_idl (neg_ℤ z)

-- ⌊a b / (a + b)⌋ ≤ a: the least bound that the limiter needs
pub pressed : (r e : ℕ) → 0 < e + r → r * e / (e + r) ≤ r
pressed r e h = div-le_of_le-mul (e + r) (le_trans (mul-le-mul_left r (le-add_right e r)) (le_of_eq (mul_comm r (e + r))))

-- -n fits from n at most half the width's power, so -128 fits eight bits: `neg-fits p tt`
pub neg-fits : {w : Width} {n h : ℕ} → n ≤ h → T (leb h (2 ^ hbits w)) → SFits w (neg_ℤ (pos n))
neg-fits {w = w} {n = zero} p t = record { sfits = pow_pos (hbits w) }
neg-fits {w = w} {n = suc n} {h = h} p t = record { sfits = le_trans p (leb→le h (2 ^ hbits w) t) }

-- ⌊r e / (e + r)⌋ < r
pub pressed< : (r e : ℕ) → 0 < r → r * e / (e + r) < r
pressed< r e h = (div-lt_iff_lt-mul {k = e + r} {x = r * e} {y = r} (omega arith)).1 (mul-lt-mul_of_pos_left {m = e} {n = e + r} {k = r} (omega arith) h)

-- ---- bounds on |.| of a sum, a difference, a negation, a quotient
pub sub-abs : (a b : ℕ) → nat_abs (sub_ℕ a b) ≤ a + b
sub-abs a b = by-test (ltb a b) refl
  where
    by-test : (t : Bool) → ltb a b ≡ t → nat_abs (cond t (negsuc (b - suc a)) (pos (a - b))) ≤ a + b
    by-test true e = omega (arith, ltb-true a b e)
    by-test false e = omega arith

pub add≤ : (a b : ℤ) (m n : ℕ) → nat_abs a ≤ m → nat_abs b ≤ n → nat_abs (a +ℤ b) ≤ m + n
add≤ (pos a) (pos b) m n h k = omega arith
add≤ (pos a) (negsuc b) m n h k = omega (arith, sub-abs a (suc b))
add≤ (negsuc a) (pos b) m n h k = omega (arith, sub-abs b (suc a))
add≤ (negsuc a) (negsuc b) m n h k = omega arith

pub sub≤ : (a b : ℤ) (m n : ℕ) → nat_abs a ≤ m → nat_abs b ≤ n → nat_abs (a -ℤ b) ≤ m + n
sub≤ a b m n h k = add≤ a (neg_ℤ b) m n h (rw abs_neg k)

pub abs-quot : (a b : ℤ) → nat_abs (quot_z a b) ≡ nat_abs a / nat_abs b
abs-quot (pos a) (pos b) = refl
abs-quot (pos a) (negsuc b) = abs_neg (pos (a / suc b))
abs-quot (negsuc a) (pos b) = abs_neg (pos (suc a / b))
abs-quot (negsuc a) (negsuc b) = refl

-- an unsigned number cast to a signed type reads back as itself
pub to_z-nat : {w : Width} {n : ℕ} → SFits w (pos n) → to_z w n ≡ pos n
to_z-nat {w} {n} f = to_z_pos w n f.sfits

pub ruleset signed = (rules, to_z-nat)

-- a difference of two naturals fits, from bounds both ways
pub sub-fits : {w : Width} (a b : ℕ) → a < b + 2 ^ hbits w → b ≤ a + 2 ^ hbits w → SFits w (sub_ℕ a b)
sub-fits {w} a b h k = record { sfits = by-test (ltb a b) refl }
  where
    by-test : (t : Bool) → ltb a b ≡ t → mag (cond t (negsuc (b - suc a)) (pos (a - b))) < 2 ^ hbits w
    by-test true e = omega (arith, ltb-true a b e)
    by-test false e = omega (arith, ltb-false a b e)

-- and back: what such a difference's fitting tells
pub sub-bounds : {w : Width} (a b : ℕ) → SFits w (sub_ℕ a b) → (a < b + 2 ^ hbits w) × (b ≤ a + 2 ^ hbits w)
sub-bounds {w} a b f = by-test (ltb a b) refl f.sfits
  where
    by-test : (t : Bool) → ltb a b ≡ t → mag (cond t (negsuc (b - suc a)) (pos (a - b))) < 2 ^ hbits w → (a < b + 2 ^ hbits w) × (b ≤ a + 2 ^ hbits w)
    by-test true e l = let s = ltb-true a b e in (omega arith, omega arith)
    by-test false e l = let s = ltb-false a b e in (omega arith, omega arith)

-- ---- a difference, a product and a quotient that are not above 0
pub sub-neg : (a b : ℕ) → a ≤ b → pos a -ℤ pos b ≡ neg_ℤ (pos (b - a))
sub-neg a b h = sym (sub-flip (pos b) (pos a)) ∙ ap neg_ℤ (pos-sub b a h)

pub neg-mul : (a b : ℕ) → neg_ℤ (pos a) *ℤ pos b ≡ neg_ℤ (pos (a * b))
neg-mul zero b = rw zero-mul
neg-mul (suc a) b = refl

pub neg-quot : (a n : ℕ) → quot_z (neg_ℤ (pos a)) (pos n) ≡ neg_ℤ (pos (a / n))
neg-quot zero n = rw zero-div
neg-quot (suc a) n = refl

-- a product of two naturals fits, from bounds on both: `mul-fits h k tt`
pub mul-fits : {w : Width} {a b m n : ℕ} → a ≤ m → b ≤ n → T (ltb (m * n) (2 ^ bits w)) → Fits w (a * b)
mul-fits {w} {a} {b} {m} {n} h k t = record { fits = lt_of_le_of_lt (mul-le-mul h k) (ltb→lt (m * n) (2 ^ bits w) t) }

-- a number of eight bits modulo 256 is its bits
pub modulo-bits : (z : ℤ) → SFits w8 z → modulo z 256 ≡ of_z w8 z
modulo-bits (pos n) f = mod-eq_of_lt (omega arith)
modulo-bits (negsuc n) f = let h : n < 256 = omega arith in rw (mod-eq_of_lt h)

-- ---- bounds on mag, which is one tighter below 0
pub mag-add : (a b : ℤ) (m n : ℕ) → nat_abs a ≤ m → mag b ≤ n → mag (a +ℤ b) ≤ m + n
mag-add (pos a) (pos b) m n h k = omega arith
mag-add (pos a) (negsuc b) m n h k = by-test (ltb a (suc b)) refl
  where
    by-test : (t : Bool) → ltb a (suc b) ≡ t → mag (cond t (negsuc (suc b - suc a)) (pos (a - suc b))) ≤ m + n
    by-test true e = omega (arith, ltb-true a (suc b) e)
    by-test false e = omega (arith, ltb-false a (suc b) e)
mag-add (negsuc a) (pos b) m n h k = by-test (ltb b (suc a)) refl
  where
    by-test : (t : Bool) → ltb b (suc a) ≡ t → mag (cond t (negsuc (suc a - suc b)) (pos (b - suc a))) ≤ m + n
    by-test true e = omega (arith, ltb-true b (suc a) e)
    by-test false e = omega (arith, ltb-false b (suc a) e)
mag-add (negsuc a) (negsuc b) m n h k = omega arith

-- z fits, from a bound on mag: `mag-fits h tt`
pub mag-fits : {w : Width} {z : ℤ} (n : ℕ) → mag z ≤ n → T (ltb n (2 ^ hbits w)) → SFits w z
mag-fits {w} {z} n h t = record { sfits = lt_of_le_of_lt h (ltb→lt n (2 ^ hbits w) t) }

-- a difference of two naturals, from bounds both ways
pub sub-size : (a b n : ℕ) → a ≤ b + n → b ≤ a + n → nat_abs (sub_ℕ a b) ≤ n
sub-size a b n h k = by-test (ltb a b) refl
  where
    by-test : (t : Bool) → ltb a b ≡ t → nat_abs (cond t (negsuc (b - suc a)) (pos (a - b))) ≤ n
    by-test true e = omega (arith, ltb-true a b e)
    by-test false e = omega (arith, ltb-false a b e)
