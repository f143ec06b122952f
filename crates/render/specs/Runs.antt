-- What is read of a run over a script's lines. Assumes nothing.
use Rattle.std.specs.Prelude.{ℕ, None, Option, Some}
use Rattle.replay_box.specs.Boxes.{mixer_of}
use Rattle.replay_box.specs.declared.OpenBox.{OpenBox}

-- the rate of the box that is open, or 0
abbrev pub rate_in : Option OpenBox → ℕ
rate_in None = 0
rate_in (Some b) = (mixer_of b).config.sample_rate_hz
