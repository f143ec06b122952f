-- The phase stays from 0 up and below 1. Only the order of rounding is used: the phase and a step are at most 3 ÷ 2 together,
-- so what is left after the turn is at most 1 ÷ 2. A phase of −0 stays one only at a step of −0. Assumes nothing.
use Rattle.std.proofs.Common.{◌≡◌, ℕ, zero, suc, ◌+◌, ◌-◌, ◌*◌, ◌<◌, ◌≤◌, Bool, true, false, cond, T, ltb, leb, ◌⊎◌, pos, negsuc, sym, refl, ap, subst, inl, inr, lt_of_lt_of_le, le_of_lt, lt_irrefl, mul-le-mul_right, mul-pos, arith, ltb→lt, lt→ltb, leb→le, le-ltb, lt-ltb}
use lib.Ieee.{Float, nan, inf, fin, binary32, up, down, round, add, sub, neg, sum, le, lt, eq}
use lib.Ieee.Fits.{down_pos}
use Rattle.laws.specs.F32.{◌⊕◌, ◌⊖◌}
use Rattle.laws.proofs.F32.{one-is, or-le, nor-lt}
use Rattle.polyblep.specs.Ranges.{is_phase, is_step}
use Rattle.polyblep.specs.Oscillators.{advance}
use Rattle.polyblep.proofs.Ranges.{MinusZero, minus, less_than, at_most, round-at_most, round-minus, half→less_than, less_than→phase, minus→phase, phase-cases, step-cases}

half_is : round binary32 false 1 2 ≡ fin false 1 (negsuc 0)
unfolding round
half_is = refl

three-halves-is : round binary32 false 3 2 ≡ fin false 3 (negsuc 0)
unfolding round
three-halves-is = refl

-- the sum
sum_bound : (a b c d : ℕ) → a < c → b * 2 ≤ d → (a * d + b * c) * 2 ≤ 3 * (c * d)
sum_bound a b c d h k =
    let x : a * d ≤ c * d = mul-le-mul_right d (le_of_lt h) in
    let y : b * 2 * c ≤ d * c = mul-le-mul_right c k in
    omega arith

bounded : (a c d : ℕ) → 0 < c → 0 < d → a * 2 ≤ 3 * (c * d) → T (at_most 3 2 (round binary32 false a (c * d)))
bounded a c d C D h = round-at_most a (c * d) 3 2 3 (negsuc 0) (mul-pos C D) (omega arith) h three-halves-is

under : (a c : ℕ) → T (ltb (a * 1) (1 * c)) → a < c
under a c t = let l : a * 1 < 1 * c = ltb→lt (a * 1) (1 * c) t in omega arith

half : (b d : ℕ) → T (leb (b * 16777216) (8371831 * d)) → b * 2 ≤ d
half b d t = let l : b * 16777216 ≤ 8371831 * d = leb→le (b * 16777216) (8371831 * d) t in omega arith

-- a sum with −0 is the other number, rounded anew
less_none : (a : ℕ) → a - 0 ≡ a
less_none a = omega arith

minus-left : (a b c : ℕ) → a ≡ 0 → sum binary32 true a false b c ≡ round binary32 false b c
unfolding sum
minus-left a zero c h = rw h
minus-left a (suc b) c h = rw (h, lt-ltb 0 (suc b) (omega arith)) (ap (λ (z : ℕ). round binary32 false z c) (less_none (suc b)))

minus-right : (a b c : ℕ) → b ≡ 0 → sum binary32 false a true b c ≡ round binary32 false a c
unfolding sum
minus-right a b c h = rw (h, le-ltb a 0 (omega arith)) (ap (λ (z : ℕ). round binary32 false z c) (less_none a))

plus-sum : (x d : Float) → T (less_than 1 1 x) → T (at_most 8371831 16777216 d) → T (at_most 3 2 (x ⊕ d))
unfolding less_than at_most add sum
plus-sum nan d p q = absurd p
plus-sum (inf s) d p q = absurd p
plus-sum (fin true m e) d p q = absurd p
plus-sum (fin false m e) nan p q = absurd q
plus-sum (fin false m e) (inf s) p q = absurd q
plus-sum (fin false m e) (fin true n g) p q = absurd q
plus-sum (fin false m e) (fin false n g) p q =
    bounded (m * up e * down g + n * up g * down e) (down e) (down g) (down_pos e) (down_pos g)
    (sum_bound (m * up e) (n * up g) (down e) (down g) (under (m * up e) (down e) p) (half (n * up g) (down g) q))

left-sum : (x d : Float) → MinusZero x → T (at_most 8371831 16777216 d) → T (at_most 3 2 (x ⊕ d))
unfolding at_most add
left-sum x nan (minus e) q = absurd q
left-sum x (inf s) (minus e) q = absurd q
left-sum x (fin true n g) (minus e) q = absurd q
left-sum x (fin false n g) (minus e) q =
    rw (minus-left (0 * up e * down g) (n * up g * down e) (down e * down g) (omega arith))
    (bounded (n * up g * down e) (down e) (down g) (down_pos e) (down_pos g)
    (let l = sum_bound 0 (n * up g) (down e) (down g) (down_pos e) (half (n * up g) (down g) q) in omega arith))

right-sum : (x d : Float) → T (less_than 1 1 x) → MinusZero d → T (at_most 3 2 (x ⊕ d))
unfolding less_than add
right-sum nan d p (minus g) = absurd p
right-sum (inf s) d p (minus g) = absurd p
right-sum (fin true m e) d p (minus g) = absurd p
right-sum (fin false m e) d p (minus g) =
    rw (minus-right (m * up e * down g) (0 * up g * down e) (down e * down g) (omega arith))
    (bounded (m * up e * down g) (down e) (down g) (down_pos e) (down_pos g)
    (let l = sum_bound (m * up e) 0 (down e) (down g) (under (m * up e) (down e) p) (omega arith) in omega arith))

-- below 1 it stays
stays : (p : Float) → T (at_most 3 2 p) → le (fin false 1 (pos 0)) p ≡ false → T (less_than 1 1 p)
unfolding at_most less_than le lt eq
stays nan t h = absurd t
stays (inf s) t h = absurd t
stays (fin true m e) t h = absurd t
stays (fin false m e) t h =
    let k = nor-lt (1 * 1 * down e) (m * up e * 1) h in
    lt→ltb (m * up e * 1) (1 * down e) (omega (arith, k))

-- from 1 up it loses 1
turns : (p : Float) → T (at_most 3 2 p) → T (le (fin false 1 (pos 0)) p) → T (less_than 1 1 (p ⊖ fin false 1 (pos 0)))
unfolding at_most le lt eq sub neg add sum
turns nan t h = absurd t
turns (inf s) t h = absurd t
turns (fin true m e) t h = absurd t
turns (fin false m e) t h =
    let k : m * up e * 2 ≤ 3 * down e = leb→le (m * up e * 2) (3 * down e) t in
    let l : 1 * 1 * down e ≤ m * up e * 1 = or-le (1 * 1 * down e) (m * up e * 1) h in
    go (ltb (m * up e * 1) (1 * 1 * down e)) (ltb→lt (m * up e * 1) (1 * 1 * down e)) k l
  where
    go : (b : Bool) → (T b → m * up e * 1 < 1 * 1 * down e) → m * up e * 2 ≤ 3 * down e → 1 * 1 * down e ≤ m * up e * 1
        → T (less_than 1 1 (cond b (round binary32 true (1 * 1 * down e - m * up e * 1) (down e * 1)) (round binary32 false (m * up e * 1 - 1 * 1 * down e) (down e * 1))))
    go true f k l = let q = f tt in absurd (lt_irrefl (m * up e * 1) (lt_of_lt_of_le q l))
    go false f k l =
        half→less_than (round binary32 false (m * up e * 1 - 1 * 1 * down e) (down e * 1))
        (round-at_most (m * up e * 1 - 1 * 1 * down e) (down e * 1) 1 2 1 (negsuc 0) (omega (arith, down_pos e)) (omega arith) (omega (arith, k, l)) half_is)

moved : (p : Float) → T (at_most 3 2 p) → T (less_than 1 1 (cond (le (fin false 1 (pos 0)) p) (p ⊖ fin false 1 (pos 0)) p))
moved p t = go (le (fin false 1 (pos 0)) p) refl
  where
    go : (b : Bool) → le (fin false 1 (pos 0)) p ≡ b → T (less_than 1 1 (cond b (p ⊖ fin false 1 (pos 0)) p))
    go true h = turns p t (subst T (sym h) tt)
    go false h = stays p t h

from-sum : (x d : Float) → T (at_most 3 2 (x ⊕ d)) → T (is_phase (advance x d))
unfolding advance
from-sum x d t = less_than→phase (advance x d) (rw one-is (moved (x ⊕ d) t))

-- −0 stays −0 at a step of −0
minus-sum : (x d : Float) → MinusZero x → MinusZero d → x ⊕ d ≡ fin true 0 (pos 0)
unfolding add sum
minus-sum x d (minus e) (minus g) = round-minus (0 * up e * down g + 0 * up g * down e) (down e * down g) (omega arith) (mul-pos (down_pos e) (down_pos g))

minus-stays : le (fin false 1 (pos 0)) (fin true 0 (pos 0)) ≡ false
unfolding le lt eq
minus-stays = refl

from-minus : (x d : Float) → x ⊕ d ≡ fin true 0 (pos 0) → T (is_phase (advance x d))
unfolding advance
from-minus x d h = rw (h, one-is, minus-stays) (minus→phase (fin true 0 (pos 0)) (minus (pos 0)))

pub keeps : (x d : Float) → T (is_phase x) → T (is_step d) → T (is_phase (advance x d))
keeps x d p q = go (phase-cases x p) (step-cases d q)
  where
    go : MinusZero x ⊎ T (less_than 1 1 x) → MinusZero d ⊎ T (at_most 8371831 16777216 d) → T (is_phase (advance x d))
    go (inl y) (inl z) = from-minus x d (minus-sum x d y z)
    go (inl y) (inr l) = from-sum x d (left-sum x d y l)
    go (inr k) (inl z) = from-sum x d (right-sum x d k z)
    go (inr k) (inr l) = from-sum x d (plus-sum x d k l)
