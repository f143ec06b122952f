-- A buffer call's engine and count. Assumes nothing.
use Rattle.std.specs.Prelude.{ℕ}
use Rattle.buffers.specs.Buffers.{Done}
use Rattle.mixer.specs.declared.Mixer.{Mixer}

-- the engine after it, and how many cells were written
abbrev pub filled_in : Mixer → ℕ → Done Mixer
filled_in m n = record { state = m; filled = n }
