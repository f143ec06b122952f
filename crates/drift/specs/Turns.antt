-- The turns that samples complete, by the test by which a step goes back. Assumes nothing.
use Rattle.std.specs.Prelude.{ℕ, zero, suc, ◌+◌, cond}
use Rattle.polyblep.specs.Oscillators.{completes, later}
use Rattle.polyblep.specs.declared.PolyBlepOscillator.{PolyBlepOscillator}

-- 1 where the next sample completes a turn
unfoldable pub turn : PolyBlepOscillator → ℕ
turn o = cond (completes o.phase o.phase_inc) 1 0

-- "the completed turns" after n samples
unfoldable pub turns : ℕ → PolyBlepOscillator → ℕ
turns zero o = 0
turns (suc n) o = turns n o + turn (later n o)
