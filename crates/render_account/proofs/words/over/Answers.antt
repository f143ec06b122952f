-- `render_account::words::over` meets its contract: the step is at least 1, and piece after piece.
use mathlib.Core.Path.{sym}
use borrow.Author.Tests.{eq-eqb, ne_eqb}
use Rattle.config.proofs.Laws.{step-least}
use Rattle.render_texts.proofs.Laws.{joined}
use Rattle.render_account.specs.Account.{over_text}
use Rattle.render_account.proofs.words.over.Goals as goal

pub returns-then-rate-eq0 : goal.returns-then-rate-eq0
unfolding over_text
returns-then-rate-eq0 c = rw (eq-eqb _ _ c.if-rate-eq0.true) c.say.ensures

pub overflow_sub-frames : goal.overflow_sub-frames
overflow_sub-frames c = rw c.crossfade_step_q8-step.ensures (step-least _ _)

pub nonzero_div-frames : goal.nonzero_div-frames
nonzero_div-frames c = rw c.crossfade_step_q8-step.ensures (step-least _ _)

pub returns : goal.returns
unfolding over_text
returns c = rw (ne_eqb _ _ c.if-rate-eq0.false, sym c.crossfade_step_q8-step.ensures) (joined (joined c.say-2.ensures c.tenths.ensures) c.say-3.ensures)
