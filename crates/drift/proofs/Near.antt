-- How far `round` moves a fraction: at most half a unit in the last place. Assumes nothing.
use mathlib.Core.Path.{◌≡◌, subst}
use Prim.Native.Nat.{ℕ, zero, suc, ◌+◌, ◌*◌, ◌/◌, ◌%◌, ◌^◌, ◌≤◌, ◌<◌, compare, Ordering}
use native.Mathlib.Nat.{div-add-mod', mod-lt, mul_comm, mul_assoc, mul_left_comm, mul-le-mul_left, mul-pos, div-lt_iff_lt-mul}
use native.Mathlib.Omega.{arith}
use mathlib.Core.Bool.{not}
use lib.Dec.{T, is_le, compare_is_eq, eqb, leb→le, nleb→lt, eqb→eq, eqb_refl}
use lib.Arith.{lt_of_le-ne}
use lib.Pow.{pow_pos, pow_mono}
use lib.Ieee.{Format, nearest, prec, low, size}
use lib.Ieee.Digits.{size-le}
use lib.Ieee.Nearest.{closest}
use lib.Ieee.Order.{kept, drop}
use lib.Ieee.Scale.{grid}
use Rattle.drift.specs.Pitch.{Within}

abbrev Cmp : Ordering → ℕ → ℕ → Type 0
Cmp Ordering.lt a b = a < b
Cmp Ordering.eq a b = a ≡ b
Cmp Ordering.gt a b = b < a

cmp : (a b : ℕ) → Cmp (compare a b) a b
cmp a b = go (compare a b) (leb→le a b) (nleb→lt a b) (eqb→eq a b) (λ (e : a ≡ b). subst (λ (x : ℕ). T (eqb a x)) e (eqb_refl a))
  where
    go : (o : Ordering) → (T (is_le o) → a ≤ b) → (T (not (is_le o)) → b < a) → (T (compare_is_eq o) → a ≡ b) → (a ≡ b → T (compare_is_eq o)) → Cmp o a b
    go Ordering.lt h k e n = lt_of_le-ne (h tt) n
    go Ordering.eq h k e n = e tt
    go Ordering.gt h k e n = k tt

tie : (q u r b : ℕ) → b < 2 → r * 2 ≡ u → Within u ((q + b) * u * 2) ((q * u + r) * 2)
tie q u r zero B h = (omega arith, omega arith)
tie q u r (suc zero) B h = (omega arith, omega arith)
tie q u r (suc (suc b)) B h = (omega arith, omega arith)

near : (q u r : ℕ) (o : Ordering) → Cmp o (r * 2) u → r < u → Within u (nearest q o * u * 2) ((q * u + r) * 2)
near q u r Ordering.lt h l = (omega arith, omega arith)
near q u r Ordering.eq h l = tie q u r (q % 2) (omega arith) h
near q u r Ordering.gt h l = (omega arith, omega arith)

pub closest-near : (n u : ℕ) → 0 < u → Within u (closest n u * u * 2) (n * 2)
closest-near n u U = subst (λ (z : ℕ). Within u (closest n u * u * 2) (z * 2)) (div-add-mod' n u) (near (n / u) u (n % u) (compare (n % u * 2) u) (cmp (n % u * 2) u) (mod-lt n U))

-- a / c is below 2 ^ (prec + k) units, so the result is within half of 2 ^ k units
widen : (e f x y : ℕ) → e ≤ f → Within e x y → Within f x y
widen e f x y h w = (let a = w.0 in omega (arith, a), let b = w.1 in omega (arith, b))

pub grid-near : (f : Format) (a c k : ℕ) → 0 < c → a * 2 ^ low f < 2 ^ (prec f + k) * c → Within (c * 2 ^ k) (grid f a c * c * 2) (a * 2 ^ low f * 2)
grid-near f a c k C h =
    let n = a * 2 ^ low f in
    let d = drop (prec f) n c in
    let s : size (n / c) ≤ prec f + k = size-le (n / c) (prec f + k) ((div-lt_iff_lt-mul C).1 h) in
    let dk : d ≤ k = omega (arith, s) in
    let w = closest-near n (c * 2 ^ d) (mul-pos C (pow_pos d)) in
    let e : kept (prec f) n c * (c * 2 ^ d) ≡ grid f a c * c = simp (mul_assoc, mul_comm, mul_left_comm) in
    widen (c * 2 ^ d) (c * 2 ^ k) (grid f a c * c * 2) (n * 2) (mul-le-mul_left c (pow_mono dk))
    (subst (λ (z : ℕ). Within (c * 2 ^ d) (z * 2) (n * 2)) e w)
