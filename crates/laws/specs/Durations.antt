-- How many samples a duration in milliseconds lasts at a rate. Assumes nothing.
use Rattle.std.specs.Prelude.{ℕ, ◌*◌, ◌/◌, ◌%◌, ◌^◌}

-- Document 01: floor(ms × rate ÷ 1000)
abbrev pub samples_of : ℕ → ℕ → ℕ
samples_of ms rate = ms * rate / 1000

-- the same as the source's release build works it out: the product is one of 32 bits. At document 01's rates, up to 65,537, it does not
-- wrap (Durations.samples-wrapped).
abbrev pub samples_wrapped : ℕ → ℕ → ℕ
samples_wrapped ms rate = ms * rate % 2 ^ 32 / 1000
