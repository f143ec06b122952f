-- Period, duty and mapper, from document 01, "Mixing, fade, duty" and its table of refusals. Assumes nothing.
use Rattle.std.specs.Prelude.{ℕ, ◌-◌, ◌/◌, ◌≤◌, cond, ltb, ℤ, pos, nat_abs, ◌+ℤ◌, ◌-ℤ◌, ◌*ℤ◌}
use Rattle.error.specs.Told.{Told, value, refused}
use Rattle.laws.specs.Whole.{trunc_div, held_to}
use Rattle.output.specs.Shapers.{fresh, shaped, fresh2nd_order, shaped2nd_order, ValidShaper}
use Rattle.output.specs.declared.DutyMode.{DutyMode}
use Rattle.output.specs.declared.DutyMode.TheVariants as M
use Rattle.output.specs.declared.Period.{Period}
use Rattle.output.specs.declared.PwmMapper.{PwmMapper}
use Rattle.output.specs.declared.Mapped.{Mapped}

-- output.rs: the mode that stands where none is chosen
abbrev pub default_mode : DutyMode
default_mode = M.Linear

-- "PWM period below 2 | 3 BadPeriod"
abbrev pub period_read : ℕ → Told Period
period_read n = cond (ltb n 2) (refused 3) (value n)

-- what every period is
pub record ValidPeriod (counts : ℕ) : Type 0 where
  pub least : 2 ≤ counts

-- "Duty: m = floor(period ÷ 2), m + truncated(s × (m − 1) ÷ 127), held to 1..period − 1." What is held so is no less than 1, and so
-- its own size.
unfoldable pub duty : ℤ → ℕ → ℕ
duty s period =
    let m = pos (period / 2) in
    nat_abs (held_to (pos 1) (pos (period - 1)) (m +ℤ trunc_div (s *ℤ (m -ℤ pos 1)) 127))

-- a new mapper, and one that is reset: "makes .. the shapers' sums 0"
abbrev pub fresh_mapper : DutyMode → PwmMapper
fresh_mapper mode = record { mode = mode; sigma_delta = fresh; sigma_delta_2nd = fresh2nd_order }

-- the mode's shaper takes the sample and gives the one whose duty it is; the other shaper stays as it was
abbrev pub mapped_by : DutyMode → PwmMapper → ℤ → ℕ → Mapped
mapped_by M.Linear m s period = record { mapper = m; duty = duty s period }
mapped_by M.SigmaDelta m s period =
    let r = shaped m.sigma_delta s in
    record {
      mapper = record { mode = m.mode; sigma_delta = r.shaper; sigma_delta_2nd = m.sigma_delta_2nd };
      duty = duty r.pcm period;
    }
mapped_by M.SigmaDelta2ndOrder m s period =
    let r = shaped2nd_order m.sigma_delta_2nd s in
    record {
      mapper = record { mode = m.mode; sigma_delta = m.sigma_delta; sigma_delta_2nd = r.shaper };
      duty = duty r.pcm period;
    }

unfoldable pub mapped : PwmMapper → ℤ → ℕ → Mapped
mapped m s period = mapped_by m.mode m s period

abbrev pub ValidMapper : PwmMapper → Type 0
ValidMapper m = ValidShaper m.sigma_delta_2nd

abbrev pub ValidMapped : Mapped → Type 0
ValidMapped r = ValidMapper r.mapper
