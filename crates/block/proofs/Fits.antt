-- The values on the way of the passes fit. Assumes nothing.
use Prim.Native.Nat.{ℕ, suc, ◌+◌, ◌*◌, ◌≤◌, ◌<◌}
use native.Mathlib.Nat.{mul-le-mul_right, suc-mul, div-le_self, le_trans}
use native.Mathlib.Omega.{arith}
use mathlib.Core.Path.{◌≡◌}
use lib.IntN.{ℤ, pos, nat_abs, ◌+ℤ◌}
use lib.Signed.{quot_z}
use mir.Syntax.{w8, w16, w32}
use mir.Val.{Fits, SFits}
use mir.Facts.{sfits_widen}
use mir.Val.{to_z, of_z}
use mir.ValLaws.{to_z-of_z}
use Rattle.block.specs.Cells.{Steady}
use Rattle.laws.proofs.Signed.{abs≤, abs-fits, abs-quot, add≤}

-- a sum over a count
pub record Means (s : ℤ) (n : ℕ) : Type 0 where
  pub wide : SFits w32 s
  pub count : SFits w32 (pos n)
  pub quot : SFits w32 (quot_z s (pos n))

pub means : (s : ℤ) (n : ℕ) → SFits w16 s → Fits w8 n → 0 < n → Means s n
means s n f g h =
    let a = abs≤ f in
    let q : nat_abs (quot_z s (pos n)) ≤ 32768 = rw abs-quot (le_trans (div-le_self (nat_abs s) n) a) in
    record { wide = sfits_widen tt f; count = record { sfits = omega arith }; quot = abs-fits 32768 q tt }

-- one more sample on a sum of up to 15
pub record Sums (a b : ℤ) : Type 0 where
  pub old : SFits w16 a
  pub more : SFits w16 b
  pub sum : SFits w16 (a +ℤ b)

pub sums : (a b : ℤ) → nat_abs a ≤ 1920 → nat_abs b ≤ 128 → Sums a b
sums a b h k = record { old = abs-fits 1920 h tt; more = abs-fits 128 k tt; sum = abs-fits 2048 (add≤ a b 1920 128 h k) tt }

-- as the code stores it
pub stored-sum : {a b : ℤ} → Sums a b → to_z w16 (of_z w16 (to_z w16 (of_z w16 a) +ℤ to_z w16 (of_z w16 b))) ≡ a +ℤ b
stored-sum {a} {b} f = rw (to_z-of_z w16 a f.old, to_z-of_z w16 b f.more, to_z-of_z w16 (a +ℤ b) f.sum)

-- t of frame k of a fade that goes on after all of len
pub record Mixes (t step k mix : ℕ) : Type 0 where
  pub value : mix + step ≡ t + suc k * step
  pub fits : mix + step < 255

pub mixes : (t step len k mix : ℕ) → Steady t step len → k < len → mix ≡ t + k * step → Mixes t step k mix
mixes t step len k mix h l e =
    let s = suc-mul k step in
    let b = mul-le-mul_right {m = suc k} {n = len} step (omega arith) in
    let g = h (omega arith) in
    record { value = omega arith; fits = omega arith }
