-- `config::crossfade_step_q8` meets its contract: no whole sample, or 255 over the samples rounded up.
use Rattle.std.proofs.Common.{arith, ◌<◌, ◌∙◌, sym}
use Rattle.laws.specs.Durations.{samples_wrapped}
use Rattle.config.proofs.Laws.{step-none, step-some, ceil-rounded_up}
use Rattle.config.proofs.crossfade_step_q8.Goals as goal

pub returns-then-samples-eq0 : goal.returns-then-samples-eq0
returns-then-samples-eq0 c = sym (step-none _ _ (rw c.from.ensures at c.if-samples-eq0.true))

pub returns : goal.returns
returns c =
    let n = samples_wrapped c.args.duration_ms c.args.sample_rate_hz in
    let p : 0 < n = rw (← c.from.ensures) (omega arith) in
    rw (c.div_ceil.ensures, c.from.ensures) (ceil-rounded_up n p ∙ sym (step-some _ _ p))
