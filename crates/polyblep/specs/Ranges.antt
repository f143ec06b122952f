-- Where a phase and a step lie, in the words of the comparisons: −0 is at least 0 as +0 is, and a NaN lies nowhere. Assumes nothing.
use Rattle.std.specs.Prelude.{Bool, ◌&&◌, Float}
use Rattle.std.specs.Float.Ieee.{le, lt}
use Rattle.laws.specs.F32.{lit}

-- "The phase always stays at least 0 and below 1."
unfoldable pub is_phase : Float → Bool
is_phase x = le (lit 0 1) x && lt x (lit 1 1)

-- "step = .. held to 0..0.499"
unfoldable pub is_step : Float → Bool
is_step x = le (lit 0 1) x && le x (lit 499 1000)
