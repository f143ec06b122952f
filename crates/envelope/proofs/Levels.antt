-- The step of a level goes towards the target and not past it. Assumes nothing.
use mathlib.Core.Path.{◌≡◌, refl}
use mathlib.Core.Bool.{Bool, true, false}
use Prim.Native.Nat.{ℕ, ◌+◌, ◌-◌, ◌*◌, ◌/◌, ◌≤◌, ◌<◌}
use native.Mathlib.Nat.{div-le_of_le-mul, mul-le-mul_left, mul_comm, mul-div_left, le_refl, le_trans, le_of_eq}
use native.Mathlib.Omega.{arith}
use borrow.Author.Tests.{leb-true, leb-false}
use lib.Dec.{leb}
use lib.IntN.{ℤ, pos, nat_abs, ◌+ℤ◌, ◌-ℤ◌, ◌*ℤ◌}
use lib.Signed.{pos-nat_abs}
use Rattle.laws.specs.Whole.{trunc_div}
use Rattle.laws.proofs.Signed.{pos-sub, sub-neg, neg-mul, neg-quot}
use Rattle.laws.proofs.Held.{Natural}
use Rattle.envelope.specs.Adsrs.{next_level}

-- ---- the step, by the side on which the target lies
abbrev part : ℕ → ℕ → ℕ → ℕ
part d c n = d * c / n

abbrev pub stepped : ℕ → ℕ → ℕ → ℕ → ℤ
stepped l t c n = pos l +ℤ trunc_div ((pos t -ℤ pos l) *ℤ pos c) n

pub part≤ : (d : ℕ) {c n : ℕ} → c ≤ n → part d c n ≤ d
part≤ d {c} {n} h = div-le_of_le-mul n (le_trans (mul-le-mul_left d h) (le_of_eq (mul_comm d n)))

pub up : {l t : ℕ} (c n : ℕ) → l ≤ t → stepped l t c n ≡ pos (l + part (t - l) c n)
up {l} {t} c n h = rw (pos-sub t l h)

pub down : {l t c n : ℕ} → t ≤ l → c ≤ n → stepped l t c n ≡ pos (l - part (l - t) c n)
down {l} {t} {c} {n} h k =
    let p : part (l - t) c n ≤ l - t = part≤ (l - t) k in
    let q : part (l - t) c n ≤ l = omega arith in
    rw (sub-neg t l h, neg-mul (l - t) c, neg-quot ((l - t) * c) n, pos-sub l (part (l - t) c n) q)

-- x lies from a to b
pub record Between (a x b : ℕ) : Type 0 where
  pub low : a ≤ x
  pub high : x ≤ b

pub rising : {l t c n : ℕ} → l ≤ t → c ≤ n → Between l (next_level l t c n) t
unfolding next_level
rising {l} {t} {c} {n} h k =
    let p : part (t - l) c n ≤ t - l = part≤ (t - l) k in
    rw (up c n h) (record { low = omega arith; high = omega arith })

pub falling : {l t c n : ℕ} → t ≤ l → c ≤ n → Between t (next_level l t c n) l
unfolding next_level
falling {l} {t} {c} {n} h k =
    let p : part (l - t) c n ≤ l - t = part≤ (l - t) k in
    rw (down h k) (record { low = omega arith; high = omega arith })

-- "At c = length the phase ends": the level is then the target
pub reached : (l t : ℕ) {n : ℕ} → 0 < n → next_level l t n n ≡ t
unfolding next_level
reached l t {n} h = by_side (leb l t) refl
  where
    by_side : (b : Bool) → leb l t ≡ b → nat_abs (stepped l t n n) ≡ t
    by_side true e =
        let k : l ≤ t = leb-true l t e in
        rw (up n n k, mul-div_left (t - l) h) (omega arith)
    by_side false e =
        let k : t ≤ l = omega (arith, leb-false l t e) in
        rw (down {n = n} k (le_refl n), mul-div_left (l - t) h) (omega arith)

-- the step is no negative number and no larger than the larger of the two
pub within : (l t : ℕ) {c n : ℕ} (m : ℕ) → l ≤ m → t ≤ m → c ≤ n → Natural m (stepped l t c n)
within l t {c} {n} m a b k = by_side (leb l t) refl
  where
    by_side : (s : Bool) → leb l t ≡ s → Natural m (stepped l t c n)
    by_side true e =
        let h : l ≤ t = leb-true l t e in
        let p : part (t - l) c n ≤ t - l = part≤ (t - l) k in
        rw (up c n h) (record { up = tt; top = omega arith })
    by_side false e =
        let h : t ≤ l = omega (arith, leb-false l t e) in
        rw (down h k) (record { up = tt; top = omega arith })

-- so nat_abs takes no sign away
pub level-is : (l t : ℕ) {c n : ℕ} → c ≤ n → pos (next_level l t c n) ≡ stepped l t c n
unfolding next_level
level-is l t {c} {n} k = pos-nat_abs _ (within l t (l + t) (omega arith) (omega arith) k).up
