-- The records of many answers: an envelope's levels (48) and state (58), a mapper's duties (57). Assumes nothing.
use Rattle.std.specs.Prelude.{ℕ, zero, suc, ◌+◌, ◌-◌, ◌/◌, List, [], ◌++◌, length}
use Rattle.std.specs.Int.{w32}
use Rattle.std.proofs.Common.{of_z}
use Rattle.error.specs.Told.{Told, value, refused}
use Rattle.envelope.specs.Adsrs.{triggered, released, ticked}
use Rattle.envelope.specs.Alone.{opened}
use Rattle.envelope.specs.declared.Adsr.{Adsr}
use Rattle.output.specs.Shapers.{fresh2nd_order}
use Rattle.output.specs.Duty.{period_read, mapped}
use Rattle.output.specs.declared.Mapped.{Mapped}
use Rattle.output.specs.declared.PwmMapper.{PwmMapper}
use Rattle.hex_digits.specs.Hex.{byte_at, wide_at, long_at, hex_of, newline}
use Rattle.replay_fields.specs.Read.{spec_at, mode_of}
use Rattle.replay_fields.specs.States.{adsr_text}
use Rattle.replay_leaves.specs.Replies.{sample_at, sum_at}

-- what n steps make of s
unfoldable pub stepped : {S : Type 0} → (S → S) → ℕ → S → S
stepped step zero s = s
stepped step (suc n) s = stepped step n (step s)

-- the texts after the first step, the second, .. the n-th, one after the other
unfoldable pub texts : {S : Type 0} → (S → S) → (S → List ℕ) → ℕ → S → List ℕ
texts step text zero s = []
texts step text (suc n) s = text (step s) ++ texts step text n (step s)

-- a line of a number
abbrev pub number_line : ℕ → List ℕ
number_line n = hex_of 2 n ++ newline

-- E, then the rate (4)
abbrev pub opened_at : List ℕ → Told Adsr
opened_at l = opened (spec_at l 1) (long_at l 8)

abbrev pub level_text : Adsr → List ℕ
level_text e = hex_of 2 e.level_q8

-- the envelope e triggered and ticked so often, and then released
abbrev pub let_go : ℕ → Adsr → Adsr
let_go held e = released (stepped ticked held (triggered e))

-- 48, envelope alone: "ticks before release (2), ticks after (2) | number; if 00, a second line with the levels after each
-- tick, 2 digits each, .. the release standing between"
abbrev pub levels_of : ℕ → ℕ → Told Adsr → List ℕ
levels_of held left (refused n) = number_line n
levels_of held left (value e) =
    number_line 0 ++ texts ticked level_text held (triggered e) ++ texts ticked level_text left (let_go held e) ++ newline

unfoldable pub levels_text : List ℕ → List ℕ
levels_text l = levels_of (wide_at l 12) (wide_at l 14) (opened_at l)

-- 58, envelope state: "number; if 00, a second line: the state after trigger, the ticks, release and the ticks after"
abbrev pub state_of : ℕ → ℕ → Told Adsr → List ℕ
state_of held left (refused n) = number_line n
state_of held left (value e) = number_line 0 ++ adsr_text (stepped ticked left (let_go held e)) ++ newline

unfoldable pub state_text : List ℕ → List ℕ
state_text l = state_of (wide_at l 12) (wide_at l 14) (opened_at l)

-- "a fresh mapper of that mode whose first-order sum is the one given"
abbrev pub mapper_at : List ℕ → PwmMapper
mapper_at l =
    record {
      mode = mode_of (byte_at l 1);
      sigma_delta = record { integrator = sum_at l 4 };
      sigma_delta_2nd = fresh2nd_order;
    }

-- a place in the line and what the sample before it was mapped to; the next sample is at the place
abbrev pub map_step : List ℕ → ℕ → ℕ × Mapped → ℕ × Mapped
map_step l period s = (s.0 + 1, mapped s.1.mapper (sample_at l s.0) period)

abbrev pub duty_text : ℕ × Mapped → List ℕ
duty_text s = hex_of 4 s.1.duty

abbrev pub first_at : List ℕ → ℕ × Mapped
first_at l = (8, record { mapper = mapper_at l; duty = 0 })

-- "integrator, e1, e2 (8 digits each)"
abbrev pub mapper_line : PwmMapper → List ℕ
mapper_line m =
    hex_of 8 (of_z w32 m.sigma_delta.integrator)
    ++ hex_of 8 (of_z w32 m.sigma_delta_2nd.e1)
    ++ hex_of 8 (of_z w32 m.sigma_delta_2nd.e2)
    ++ newline

-- 57, duty mapper: "number (period below 2 is 3); if 00, a second line: each sample's duty (4 digits), then .."
abbrev pub duties_of : List ℕ → ℕ → Told ℕ → List ℕ
duties_of l n (refused m) = number_line m
duties_of l n (value p) =
    let step = map_step l p in
    number_line 0 ++ texts step duty_text n (first_at l) ++ mapper_line (stepped step n (first_at l)).1.mapper

unfoldable pub duties_text : List ℕ → List ℕ
duties_text l = duties_of l (length l / 2 - 8) (period_read (wide_at l 2))
