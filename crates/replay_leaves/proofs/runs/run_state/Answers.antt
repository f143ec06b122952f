-- `replay_leaves::runs::run_state` meets its contract: three texts, the second of the envelope that both groups of ticks left.
use native.Mathlib.Omega.{arith}
use mathlib.Core.Path.{sym}
use Rattle.hex_digits.proofs.Texts.{then, part, whole}
use Rattle.replay_leaves.proofs.runs.run_state.Goals as goal

pub returns : goal.returns
returns c =
    rw (sym c.wide_at-2.ensures, sym c.wide_at.ensures, sym c.trigger.ensures, sym c.ticked_by-held.ensures, sym c.release.ensures, sym c.ticked_by-left.ensures, sym c.state.ensures.same)
    (whole (then (then (part c.put_line-n.ensures.0) c.put_adsr-end.ensures.0) c.end_line.ensures.0)
    (omega (arith, c.put_line-n.ensures.1, c.put_adsr-end.ensures.1, c.end_line.ensures.1)))
