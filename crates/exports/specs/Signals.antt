-- The evacuation pattern and its reader, opened for one call: 12 for a rate below 20, 2 for one above 65,537. Assumes nothing.
use Rattle.std.specs.Prelude.{ℕ, List}
use Rattle.error.specs.Told.{Told, value, and_then}
use Rattle.evacuation.specs.Pattern.{cycle_of, sound_byte, byte_of, samples_from}
use Rattle.evacuation.specs.Reader.{whole_cycles}
use Rattle.evacuation.specs.Opened.{opened_at}

-- the samples of a cycle
abbrev pub cycle_told : ℕ → Told ℕ
cycle_told rate = and_then (opened_at rate) (λ hz. value (cycle_of hz))

-- whether it sounds at sample n: 1 or 0
abbrev pub sounds_told : ℕ → ℕ → Told ℕ
sounds_told rate n = and_then (opened_at rate) (λ hz. value (sound_byte hz n))

-- the same from a sample on, for so many cells
abbrev pub run_told : ℕ → ℕ → ℕ → Told (List ℕ)
run_told rate first len = and_then (opened_at rate) (λ hz. value (samples_from hz first len))

-- whether a recording is whole cycles: 1 or 0
abbrev pub read_told : ℕ → List ℕ → Told ℕ
read_told rate recording = and_then (opened_at rate) (λ hz. value (byte_of (whole_cycles hz recording)))
