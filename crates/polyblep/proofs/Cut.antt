-- A float cut to an i8 toward zero: its whole part from its bits, and where it is held or 0. Assumes nothing.
use Rattle.std.proofs.Common.{◌≡◌, ℕ, suc, ◌+◌, ◌-◌, ◌*◌, ◌/◌, ◌%◌, ◌^◌, ◌<◌, ◌≤◌, min, true, false, not, T, eqb, ℤ, pos, negsuc, neg_ℤ, refl, ap, ◌∙◌, true≢false, lt_of_lt_of_le, lt_irrefl, mul-le-mul_right, mul-lt-mul_of_pos_right, lt_of_not-le, le-div_iff_mul-le, not-le_of_lt, arith, eqb→eq, ltb→lt, pow_pos, pow_mono, pow-add, w8, SFits, ltb-false}
use native.Mathlib.Nat.{div-div-eq-div-mul, mul-div-mul_right}
use lib.Ieee.{Float, nan, inf, fin, binary32, up, down, neg, size, is_nan, to_bits, to_signed, to_unsigned, lt, le, eq}
use lib.Ieee.Casts.{to_unsigned-lt}
use lib.Ieee.Digits.{size-lt, size_reaches, size-le}
use lib.Ieee.Fits.{down_pos, and_l, and_r, kept-lt}
use Rattle.laws.proofs.F32.{or-le, nor-lt, le-or, or-ge, nor-gt, cut-ge, cut-lt}
use Rattle.polyblep.proofs.Ranges.{apart}

abbrev one : Float
one = fin false 1 (pos 0)

abbrev top : Float
top = fin false 1 (pos 7)

-- ---- the whole part from the bits of a number from 1 up and below 128. n is the number in units of 2^−149. The bits hold its
-- 24 leading digits, and how many were dropped: the leading digit adds one to that.
size-gt : (n j : ℕ) → 2 ^ j ≤ n → j < size n
size-gt n j h = lt_of_not-le (λ (g : size n ≤ j). not-le_of_lt (lt_of_lt_of_le (size-lt n) (pow_mono g)) h)

exponent-of : (k q : ℕ) → 8388608 ≤ q → q < 16777216 → (0 + k * 8388608 + q) / 8388608 ≡ suc k
exponent-of k q h l = omega arith

digits_of : (k q : ℕ) → 8388608 ≤ q → q < 16777216 → (0 + k * 8388608 + q) % 8388608 + 8388608 ≡ q
digits_of k q h l = omega arith

record Fields (n b : ℕ) : Type 0 where
  room : b / 8388608 ≤ 150
  shift : 150 - b / 8388608 < 32
  whole : (b % 8388608 + 8388608) / 2 ^ (150 - b / 8388608) ≡ n / 2 ^ 149

-- how many digits are dropped of one that has z
record Dropped (z k : ℕ) : Type 0 where
  least : 126 ≤ k
  most : k ≤ 132
  under : 23 + k < z

dropped : (z : ℕ) → 149 < z → z ≤ 156 → Dropped z (z - 24)
dropped z a b = record { least = omega arith; most = omega arith; under = omega arith }

fields : (n : ℕ) → 2 ^ 149 ≤ n → n < 2 ^ 156 → Fields n (0 + (size n - 24) * 8388608 + n / 2 ^ (size n - 24))
fields n l h = go (size n - 24) (n / 2 ^ (size n - 24)) refl (dropped (size n) (size-gt n 149 l) (size-le n 156 h)) (kept-lt 24 n)
  where
    sum : (k : ℕ) → k ≤ 132 → k + (150 - suc k) ≡ 149
    sum k a = omega arith

    go : (k q : ℕ) → n / 2 ^ k ≡ q → Dropped (size n) k → q < 2 ^ 24 → Fields n (0 + k * 8388608 + q)
    go k q is d b =
        let a : 2 ^ 23 ≤ q = rw is at ((le-div_iff_mul-le (pow_pos k)).1 (rw pow-add at (size_reaches n (23 + k) d.under))) in
        let e = exponent-of k q a b in
        record {
          room = rw e (omega arith);
          shift = rw e (omega arith);
          whole = rw (e, digits_of k q a b, ← is, div-div-eq-div-mul, ← pow-add, sum k d.most);
        }

scale-low : (a d p : ℕ) → d ≤ a → p * d ≤ a * p
scale-low a d p h = let x : d * p ≤ a * p = mul-le-mul_right p h in omega arith

scale-high : (a d p : ℕ) → 0 < p → a < 128 * d → a * p < 128 * p * d
scale-high a d p P h = let x : a * p < 128 * d * p = mul-lt-mul_of_pos_right h P in omega arith

unscale : (a d p : ℕ) → 0 < p → a * p / d / p ≡ a / d
unscale a d p P = div-div-eq-div-mul (a * p) d p ∙ mul-div-mul_right a d P

pub record Whole (x : Float) : Type 0 where
  pub number : T (not (is_nan x))
  pub room : to_bits binary32 x / 8388608 ≤ 150
  pub shift : 150 - to_bits binary32 x / 8388608 < 32
  pub is : (to_bits binary32 x % 8388608 + 8388608) / 2 ^ (150 - to_bits binary32 x / 8388608) ≡ to_unsigned 7 x

pub whole : (x : Float) → T (le one x) → T (lt x top) → Whole x
unfolding le lt eq is_nan to_bits to_unsigned
whole nan t u = absurd t
whole (inf true) t u = absurd t
whole (inf false) t u = absurd u
whole (fin true m e) t u = absurd (apart 1 m e (omega arith) t)
whole (fin false m e) t u =
    let l : 1 * 1 * down e ≤ m * up e * 1 = or-le (1 * 1 * down e) (m * up e * 1) t in
    let h : m * up e * 1 < 1 * 128 * down e = ltb→lt (m * up e * 1) (1 * 128 * down e) u in
    let f = fields (m * up e * 2 ^ 149 / down e)
    (cut-ge (m * up e * 2 ^ 149) (down e) (2 ^ 149) (down_pos e) (scale-low (m * up e) (down e) (2 ^ 149) (omega arith)))
    (cut-lt (m * up e * 2 ^ 149) (down e) (2 ^ 156) (down_pos e) (scale-high (m * up e) (down e) (2 ^ 149) (pow_pos 149) (omega arith))) in
    record {
      number = tt;
      room = f.room;
      shift = f.shift;
      is = f.whole ∙ unscale (m * up e) (down e) (2 ^ 149) (pow_pos 149) ∙ uncapped (m * up e / down e) (cut-lt (m * up e) (down e) 128 (down_pos e) (omega arith));
    }
  where
    uncapped : (q : ℕ) → q < 128 → q ≡ min q 127
    uncapped q h = omega arith

pub byte : (x : Float) → SFits w8 (pos (to_unsigned 7 x))
byte x = record { sfits = to_unsigned-lt 7 x }

-- ---- from 1 up
pub above : (x : Float) → T (le one x) → pos (to_unsigned 7 x) ≡ to_signed 7 x
unfolding le lt eq to_signed to_unsigned
above nan t = absurd t
above (inf true) t = absurd t
above (inf false) t = refl
above (fin true m e) t = absurd (apart 1 m e (omega arith) t)
above (fin false m e) t = refl

pub high : (x : Float) → T (le one x) → lt x top ≡ false → pos 127 ≡ to_signed 7 x
unfolding le lt eq to_signed
high nan t u = absurd t
high (inf true) t u = absurd t
high (inf false) t u = refl
high (fin true m e) t u = absurd (apart 1 m e (omega arith) t)
high (fin false m e) t u =
    let l = ltb-false (m * up e * 1) (1 * 128 * down e) u in
    ap pos (capped (m * up e / down e) (cut-ge (m * up e) (down e) 128 (down_pos e) (omega (arith, l))))
  where
    capped : (q : ℕ) → 128 ≤ q → 127 ≡ min q 127
    capped q h = omega arith

-- ---- from −1 down
pub record Negated (x : Float) : Type 0 where
  pub least : T (le one (neg x))
  pub most : T (lt (neg x) top)
  pub is : neg_ℤ (pos (to_unsigned 7 (neg x))) ≡ to_signed 7 x

below_apart : (m : ℕ) (e : ℤ) → T (le (fin false m e) (fin true 1 (pos 0))) → ⊥
unfolding le lt eq
below_apart m e t =
    let z : m * up e * 1 ≡ 0 = eqb→eq (m * up e * 1) 0 (and_r (eqb (m * up e * 1) (1 * 1 * down e)) (eqb (m * up e * 1) 0) t) in
    let y : m * up e * 1 ≡ 1 * 1 * down e = eqb→eq (m * up e * 1) (1 * 1 * down e) (and_l (eqb (m * up e * 1) (1 * 1 * down e)) (eqb (m * up e * 1) 0) t) in
    lt_irrefl 0 (omega (arith, down_pos e))

pub negated : (x : Float) → T (le x (fin true 1 (pos 0))) → T (lt (fin true 1 (pos 7)) x) → Negated x
unfolding le lt eq neg to_signed to_unsigned
negated nan t u = absurd t
negated (inf true) t u = absurd u
negated (inf false) t u = absurd t
negated (fin false m e) t u = absurd (below_apart m e t)
negated (fin true m e) t u =
    let h : m * up e * 1 < 1 * 128 * down e = ltb→lt (m * up e * 1) (1 * 128 * down e) u in
    record {
      least = le-or (1 * 1 * down e) (m * up e * 1) (or-ge (m * up e * 1) (1 * 1 * down e) t);
      most = u;
      is = ap (λ (k : ℕ). neg_ℤ (pos k)) (uncapped (m * up e / down e) (cut-lt (m * up e) (down e) 128 (down_pos e) (omega arith)));
    }
  where
    uncapped : (q : ℕ) → q < 128 → min q 127 ≡ min q 128
    uncapped q h = omega arith

pub low : (x : Float) → T (le x (fin true 1 (pos 0))) → lt (fin true 1 (pos 7)) x ≡ false → negsuc 127 ≡ to_signed 7 x
unfolding le lt eq to_signed
low nan t u = absurd t
low (inf true) t u = refl
low (inf false) t u = absurd t
low (fin false m e) t u = absurd (below_apart m e t)
low (fin true m e) t u =
    let l = ltb-false (m * up e * 1) (1 * 128 * down e) u in
    ap (λ (k : ℕ). neg_ℤ (pos k)) (capped (m * up e / down e) (cut-ge (m * up e) (down e) 128 (down_pos e) (omega (arith, l))))
  where
    capped : (q : ℕ) → 128 ≤ q → 128 ≡ min q 128
    capped q h = omega arith

-- ---- between them, or a NaN
pub none : (x : Float) → le one x ≡ false → le x (fin true 1 (pos 0)) ≡ false → pos 0 ≡ to_signed 7 x
unfolding le lt eq to_signed
none nan t u = refl
none (inf true) t u = absurd (true≢false u)
none (inf false) t u = absurd (true≢false t)
none (fin true m e) t u =
    let l = nor-gt (m * up e * 1) (1 * 1 * down e) u in
    ap (λ (k : ℕ). neg_ℤ (pos k)) (least (m * up e / down e) (cut-lt (m * up e) (down e) 1 (down_pos e) (omega (arith, l))))
  where
    least : (q : ℕ) → q < 1 → 0 ≡ min q 128
    least q h = omega arith
none (fin false m e) t u =
    let l = nor-lt (1 * 1 * down e) (m * up e * 1) t in
    ap pos (least (m * up e / down e) (cut-lt (m * up e) (down e) 1 (down_pos e) (omega (arith, l))))
  where
    least : (q : ℕ) → q < 1 → 0 ≡ min q 127
    least q h = omega arith
