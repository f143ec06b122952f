-- What held_to gives. Assumes nothing.
use mathlib.Core.Path.{◌≡◌, refl, sym}
use mathlib.Core.Bool.{Bool, true, false, cond}
use Prim.Native.Nat.{ℕ, ◌≤◌, ◌<◌, ◌^◌}
use native.Mathlib.Omega.{arith}
use borrow.Author.Tests.{le-ltb, ltb-false}
use lib.Dec.{T, ltb, ltb→lt}
use lib.IntN.{ℤ, pos, negsuc, nat_abs}
use lib.Signed.{lt_z, non_neg}
use mir.Syntax.{Width}
use mir.Val.{SFits, hbits}
use Rattle.laws.specs.Whole.{held_to}
use Rattle.laws.proofs.Bools.{never}

pub record Within (lo hi z : ℤ) : Type 0 where
  pub low : lt_z z lo ≡ false
  pub high : lt_z hi z ≡ false

-- what lies within is left as it is
pub held-id : {lo hi z : ℤ} → Within lo hi z → held_to lo hi z ≡ z
unfolding held_to
held-id h = rw (h.low, h.high)

-- what is held lies within, where lo is not above hi
pub held-within : (lo hi z : ℤ) → lt_z lo lo ≡ false → lt_z hi hi ≡ false → lt_z hi lo ≡ false → Within lo hi (held_to lo hi z)
unfolding held_to
held-within lo hi z l h o = by-test (lt_z z lo) refl (lt_z hi z) refl
  where
    by-test : (t : Bool) → lt_z z lo ≡ t → (u : Bool) → lt_z hi z ≡ u → Within lo hi (cond t lo (cond u hi z))
    by-test true e u d = record { low = l; high = o }
    by-test false e true d = record { low = o; high = h }
    by-test false e false d = record { low = e; high = d }

-- within −a − 1..b, both within the width: `within-fits tt tt h`
pub within-fits : {w : Width} {a b : ℕ} {z : ℤ} → T (ltb a (2 ^ hbits w)) → T (ltb b (2 ^ hbits w)) → Within (negsuc a) (pos b) z → SFits w z
within-fits {w = w} {a = a} {b = b} {z = pos n} s t h = record { sfits = omega (arith, ltb-false b n h.high, ltb→lt b (2 ^ hbits w) t) }
within-fits {w = w} {a = a} {b = b} {z = negsuc k} s t h = record { sfits = omega (arith, ltb-false a k h.low, ltb→lt a (2 ^ hbits w) s) }

-- a natural of at most hi
pub record Natural (hi : ℕ) (z : ℤ) : Type 0 where
  pub up : T (non_neg z)
  pub top : nat_abs z ≤ hi

-- held between two naturals it is one of those between
pub record Between (lo hi : ℕ) (z : ℤ) : Type 0 where
  pub up : T (non_neg z)
  pub least : lo ≤ nat_abs z
  pub most : nat_abs z ≤ hi

pub held-between : (lo hi : ℕ) (z : ℤ) → lo ≤ hi → Between lo hi (held_to (pos lo) (pos hi) z)
held-between lo hi z h =
    by_sign (held_to (pos lo) (pos hi) z) (held-within (pos lo) (pos hi) z (le-ltb lo lo (omega arith)) (le-ltb hi hi (omega arith)) (le-ltb hi lo h))
  where
    by_sign : (z : ℤ) → Within (pos lo) (pos hi) z → Between lo hi z
    by_sign (pos n) w = record { up = tt; least = ltb-false n lo w.low; most = ltb-false hi n w.high }
    by_sign (negsuc k) w = never (sym w.low)
