-- What an engine is opened with, and the step of a fade. Assumes nothing.
use Rattle.std.specs.Prelude.{ℕ, ◌+◌, ◌-◌, ◌/◌, cond, ◌||◌, eqb}
use Rattle.laws.specs.Durations.{samples_wrapped}
use Rattle.output.specs.declared.DutyMode.{DutyMode}
use Rattle.output.specs.declared.DutyMode.TheVariants as M
use Rattle.config.specs.declared.AudioConfig.{AudioConfig}

-- config.rs: a new configuration has master gain 255
abbrev pub configured : ℕ → ℕ → DutyMode → AudioConfig
configured rate period mode =
    record { sample_rate_hz = rate; pwm_period = period; duty_mode = mode; master_gain_q8 = 255 }

abbrev pub default_duty : AudioConfig
default_duty = configured 16000 1000 M.SigmaDelta

abbrev pub with_master_gain : AudioConfig → ℕ → AudioConfig
with_master_gain c gain =
    record {
      sample_rate_hz = c.sample_rate_hz;
      pwm_period = c.pwm_period;
      duty_mode = c.duty_mode;
      master_gain_q8 = gain;
    }

-- a ÷ m "rounded up"
abbrev pub rounded_up : ℕ → ℕ → ℕ
rounded_up a m = (a + (m - 1)) / m

-- "Fade step: 255 for 0 ms, rate 0 or no whole sample; else 255 ÷ samples rounded up."
unfoldable pub fade_step : ℕ → ℕ → ℕ
fade_step ms rate =
    let samples = samples_wrapped ms rate in
    cond (eqb ms 0 || eqb rate 0 || eqb samples 0) 255 (rounded_up 255 samples)
