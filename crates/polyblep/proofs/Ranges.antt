-- Where a float lies: by its digits, from an order with a constant, and in the words of the comparisons. Assumes nothing.
use Rattle.std.proofs.Common.{◌≡◌, ℕ, zero, suc, ◌+◌, ◌*◌, ◌<◌, ◌≤◌, Bool, true, false, not, ◌&&◌, ◌||◌, T, eqb, ltb, leb, ◌⊎◌, ℤ, pos, negsuc, refl, inl, inr, lt_irrefl, zero-lt-suc, mul-pos, arith, le→leb, eqb→eq, ltb→lt, lt→ltb, leb→le}
use lib.Ieee.{Float, nan, inf, fin, binary32, up, down, round, le, lt, eq, is_nan}
use lib.Ieee.Fits.{down_pos, up_pos, and_i, and_l, and_r, eq→eqb}
use lib.Ieee.Scale.{round_same}
use Rattle.laws.specs.F32.{lit}
use Rattle.laws.proofs.F32.{zero_is, one-is, or-le, le-or}
use Rattle.laws.proofs.Rounding.{non_neg, round-non_neg, round_up}
use Rattle.polyblep.specs.Ranges.{is_phase, is_step}

-- x is a number from +0 up and below a ÷ b
unfoldable pub less_than : ℕ → ℕ → Float → Bool
less_than a b nan = false
less_than a b (inf s) = false
less_than a b (fin s m e) = not s && ltb (m * up e * b) (a * down e)

-- x is a number from +0 up to a ÷ b
unfoldable pub at_most : ℕ → ℕ → Float → Bool
at_most a b nan = false
at_most a b (inf s) = false
at_most a b (fin s m e) = not s && leb (m * up e * b) (a * down e)

pub le→at_most : (x : Float) (n : ℕ) (k : ℤ) → T (non_neg x) → T (le x (fin false n k)) → T (at_most (n * up k) (down k) x)
unfolding le lt eq at_most
le→at_most nan n k p t = absurd p
le→at_most (inf true) n k p t = absurd p
le→at_most (inf false) n k p t = absurd t
le→at_most (fin true m e) n k p t = absurd p
le→at_most (fin false m e) n k p t = le→leb (m * up e * down k) (n * up k * down e) (or-le (m * up e * down k) (n * up k * down e) t)

-- a ÷ c is at most b ÷ d, which rounds to n × 2^k
pub round-at_most : (a c b d n : ℕ) (k : ℤ) → 0 < c → 0 < d → a * d ≤ b * c → round binary32 false b d ≡ fin false n k → T (at_most (n * up k) (down k) (round binary32 false a c))
round-at_most a c b d n k C D h is = le→at_most (round binary32 false a c) n k (round-non_neg binary32 a c) (round_up a c b d C D h is)

pub half→less_than : (x : Float) → T (at_most 1 2 x) → T (less_than 1 1 x)
unfolding at_most less_than
half→less_than nan t = absurd t
half→less_than (inf s) t = absurd t
half→less_than (fin true m e) t = absurd t
half→less_than (fin false m e) t =
    let k : m * up e * 2 ≤ 1 * down e = leb→le (m * up e * 2) (1 * down e) t in
    lt→ltb (m * up e * 1) (1 * down e) (omega (arith, down_pos e, k))

-- a float at most p ÷ q is not below 0
pub at_most-non_neg : (x : Float) (p q : ℕ) → T (at_most p q x) → T (non_neg x)
unfolding at_most
at_most-non_neg nan p q t = t
at_most-non_neg (inf s) p q t = absurd t
at_most-non_neg (fin true m e) p q t = t
at_most-non_neg (fin false m e) p q t = tt

-- ---- −0, which is at least 0
pub data MinusZero : Float → Type 0 where
  minus : (e : ℤ) → MinusZero (fin true zero e)

-- 0 is not rounded: it keeps its sign
minus-zero : round binary32 true 0 1 ≡ fin true 0 (pos 0)
unfolding round
minus-zero = refl

pub round-minus : (a c : ℕ) → a ≡ 0 → 0 < c → round binary32 true a c ≡ fin true 0 (pos 0)
round-minus a c h C = rw (round_same binary32 true a c 0 1 C (omega arith) (omega arith)) minus-zero

-- what is from n up, n above 0, has no minus
pub apart : (n m : ℕ) (e : ℤ) → 0 < n → T (le (fin false n (pos 0)) (fin true m e)) → ⊥
unfolding le lt eq
apart n m e N t =
    let z : n * 1 * down e ≡ 0 = eqb→eq (n * 1 * down e) 0 (and_r (eqb (n * 1 * down e) (m * up e * 1)) (eqb (n * 1 * down e) 0) t) in
    let p : 0 < n * 1 * down e = mul-pos (omega arith) (down_pos e) in
    lt_irrefl 0 (omega arith)

-- what is at least 0 has a minus only at 0
zero-only : (m : ℕ) (e : ℤ) → T (le (fin false 0 (pos 0)) (fin true (suc m) e)) → ⊥
unfolding le lt eq
zero-only m e t =
    let z : 0 * 1 * down e ≡ suc m * up e * 1 = eqb→eq (0 * 1 * down e) (suc m * up e * 1) (and_l (eqb (0 * 1 * down e) (suc m * up e * 1)) (eqb (0 * 1 * down e) 0) t) in
    let p : 0 < suc m * up e = mul-pos (zero-lt-suc m) (up_pos e) in
    lt_irrefl 0 (omega arith)

-- ---- at least 0 and below 1, as the comparisons say it, and by the digits: −0 beside the numbers from +0 up
below_one : (x : Float) → T (le (fin false 0 (pos 0)) x) → T (lt x (fin false 1 (pos 0))) → MinusZero x ⊎ T (less_than 1 1 x)
unfolding le lt eq less_than
below_one nan t u = absurd t
below_one (inf true) t u = absurd t
below_one (inf false) t u = absurd u
below_one (fin true zero e) t u = inl (minus e)
below_one (fin true (suc m) e) t u = absurd (zero-only m e t)
below_one (fin false m e) t u =
    let l = ltb→lt (m * up e * 1) (1 * 1 * down e) u in
    inr (lt→ltb (m * up e * 1) (1 * down e) (omega (arith, l)))

pub phase-cases : (x : Float) → T (is_phase x) → MinusZero x ⊎ T (less_than 1 1 x)
unfolding is_phase
phase-cases x t =
    below_one x (rw zero_is at (and_l (le (lit 0 1) x) (lt x (lit 1 1)) t)) (rw one-is at (and_r (le (lit 0 1) x) (lt x (lit 1 1)) t))

minus-least : (e : ℤ) → T (le (fin false 0 (pos 0)) (fin true zero e))
unfolding le lt eq
minus-least e = le-or' (0 * 1 * down e) (0 * up e * 1) (omega arith) (omega arith)
  where
    le-or' : (a b : ℕ) → a ≡ b → a ≡ 0 → T (eqb a b && (false || eqb a 0))
    le-or' a b h z = and_i (eqb a b) (eqb a 0) (eq→eqb h) (eq→eqb z)

words : (x : Float) → T (less_than 1 1 x) → T (le (fin false 0 (pos 0)) x) × T (lt x (fin false 1 (pos 0)))
unfolding less_than le lt eq
words nan t = absurd t
words (inf s) t = absurd t
words (fin true m e) t = absurd t
words (fin false m e) t =
    let l = ltb→lt (m * up e * 1) (1 * down e) t in
    (le-or (0 * 1 * down e) (m * up e * 1) (omega arith), lt→ltb (m * up e * 1) (1 * 1 * down e) (omega (arith, l)))

pub less_than→phase : (x : Float) → T (less_than 1 1 x) → T (is_phase x)
unfolding is_phase
less_than→phase x t = let w = words x t in rw (zero_is, one-is) (and_i (le (fin false 0 (pos 0)) x) (lt x (fin false 1 (pos 0))) w.0 w.1)

minus-below : (e : ℤ) → T (lt (fin true zero e) (fin false 1 (pos 0)))
unfolding lt
minus-below e = lt→ltb 0 (0 * up e * 1 + 1 * 1 * down e) (omega (arith, down_pos e))

pub minus→phase : (x : Float) → MinusZero x → T (is_phase x)
unfolding is_phase
minus→phase x (minus e) =
    rw (zero_is, one-is) (and_i (le (fin false 0 (pos 0)) (fin true zero e)) (lt (fin true zero e) (fin false 1 (pos 0))) (minus-least e) (minus-below e))

-- ---- and 0..0.499 of a step. The binary32 next to 0.499 is 8,371,831 ÷ 2^24.
abbrev pub hi : Float
hi = fin false 8371831 (negsuc 23)

pub hi-is : lit 499 1000 ≡ hi
unfolding round
hi-is = refl

to-hi : (x : Float) → T (le (fin false 0 (pos 0)) x) → T (le x hi) → MinusZero x ⊎ T (at_most 8371831 16777216 x)
unfolding le lt eq at_most
to-hi nan t u = absurd t
to-hi (inf true) t u = absurd t
to-hi (inf false) t u = absurd u
to-hi (fin true zero e) t u = inl (minus e)
to-hi (fin true (suc m) e) t u = absurd (zero-only m e t)
to-hi (fin false m e) t u =
    let l = or-le (m * up e * 16777216) (8371831 * 1 * down e) u in
    inr (le→leb (m * up e * 16777216) (8371831 * down e) (omega (arith, l)))

pub step-cases : (x : Float) → T (is_step x) → MinusZero x ⊎ T (at_most 8371831 16777216 x)
unfolding is_step
step-cases x t =
    to-hi x (rw zero_is at (and_l (le (lit 0 1) x) (le x (lit 499 1000)) t)) (rw hi-is at (and_r (le (lit 0 1) x) (le x (lit 499 1000)) t))

from-hi : (x : Float) → T (at_most 8371831 16777216 x) → T (le (fin false 0 (pos 0)) x) × T (le x hi)
unfolding at_most le lt eq
from-hi nan t = absurd t
from-hi (inf s) t = absurd t
from-hi (fin true m e) t = absurd t
from-hi (fin false m e) t =
    let l = leb→le (m * up e * 16777216) (8371831 * down e) t in
    (le-or (0 * 1 * down e) (m * up e * 1) (omega arith), le-or (m * up e * 16777216) (8371831 * 1 * down e) (omega (arith, l)))

pub at_most→step : (x : Float) → T (at_most 8371831 16777216 x) → T (is_step x)
unfolding is_step
at_most→step x t = let w = from-hi x t in rw (zero_is, hi-is) (and_i (le (fin false 0 (pos 0)) x) (le x hi) w.0 w.1)

-- ---- neither is a NaN
at-least-some : (x : Float) → T (le (lit 0 1) x) → T (not (is_nan x))
unfolding le lt eq is_nan
at-least-some x t = go x (rw zero_is at t)
  where
    go : (x : Float) → T (le (fin false 0 (pos 0)) x) → T (not (is_nan x))
    go nan t = t
    go (inf s) t = tt
    go (fin s m e) t = tt

pub phase-some : (x : Float) → T (is_phase x) → T (not (is_nan x))
unfolding is_phase
phase-some x t = at-least-some x (and_l (le (lit 0 1) x) (lt x (lit 1 1)) t)

pub step-some : (x : Float) → T (is_step x) → T (not (is_nan x))
unfolding is_step
step-some x t = at-least-some x (and_l (le (lit 0 1) x) (le x (lit 499 1000)) t)
