-- The source's approximation of the sine, its remainder included. Assumes nothing.
use Rattle.std.specs.Prelude.{cond, Float}
use Rattle.std.specs.Float.{binary32}
use Rattle.std.specs.Float.Ieee.{lt, rem, neg}
use Rattle.laws.specs.F32.{◌⊕◌, ◌⊖◌, ◌⊗◌, ◌⊘◌, lit}

-- the source's core::f32::consts::PI
abbrev pub pi : Float
pi = lit 314159265358979323846264338327950288 100000000000000000000000000000000000

abbrev pub two_pi : Float
two_pi = lit 2 1 ⊗ pi

-- the arch over 0..pi, with a sign
unfoldable pub arch : Float → Float → Float
arch sign y = sign ⊗ (lit 16 1 ⊗ y ⊗ (pi ⊖ y)) ⊘ (lit 5 1 ⊗ pi ⊗ pi ⊖ lit 4 1 ⊗ y ⊗ (pi ⊖ y))

-- an angle brought to 0..2 pi by the remainder
unfoldable pub turned : Float → Float
turned v = let r = rem binary32 v two_pi in cond (lt r (lit 0 1)) (r ⊕ two_pi) r

-- an arch up, then an arch down
unfoldable pub sine_of : Float → Float
sine_of v = let x = turned v in cond (lt pi x) (arch (neg (lit 1 1)) (x ⊖ pi)) (arch (lit 1 1) x)
