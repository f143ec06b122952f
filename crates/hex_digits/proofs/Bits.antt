-- Two's complement written and read back. Assumes nothing.
use mathlib.Core.Path.{◌≡◌}
use Prim.Native.Nat.{◌^◌, ◌<◌}
use lib.IntN.{ℤ}
use lib.Signed.{mag}
use mir.Syntax.{Width}
use mir.Val.{hbits, to_z, of_z}
use mir.ValLaws.{to_z-of_z}

-- a value of the width, written as bits and read back
pub back : (w : Width) (z : ℤ) → mag z < 2 ^ hbits w → to_z w (of_z w z) ≡ z
back w z h = to_z-of_z w z (record { sfits = h })
