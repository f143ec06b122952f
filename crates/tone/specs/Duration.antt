-- How many samples a source lasts, and the count of those left: tone and PolyBLEP alike. Assumes nothing.
use Rattle.std.specs.Prelude.{ℕ, ◌-◌, cond, ◌==◌}
use Rattle.laws.specs.Durations.{samples_wrapped}

-- stands for "never ends"
abbrev pub forever : ℕ
forever = 4294967295

-- "A duration of 0 ms never ends; otherwise floor(ms × rate ÷ 1000) samples". The source's product is one of 32 bits; at
-- document 01's rates it does not wrap (Laws.duration-samples).
unfoldable pub duration_of : ℕ → ℕ → ℕ
duration_of ms rate = cond (ms == 0) forever (samples_wrapped ms rate)

-- one sample fewer, unless the source never ends
unfoldable pub less_one : ℕ → ℕ
less_one left = cond (left == forever) forever (left - 1)
