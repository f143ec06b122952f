-- `replay_leaves::runs::run_levels` meets its contract: four texts, one after the other, each from the envelope that the one before left.
use mathlib.Core.Path.{sym}
use native.Mathlib.Omega.{arith}
use Rattle.hex_digits.proofs.Texts.{then, part, whole-line}
use Rattle.replay_leaves.proofs.runs.run_levels.Goals as goal

pub returns : goal.returns
returns c =
    let p = c.put_line-n.ensures in
    rw (sym c.wide_at-2.ensures, sym c.wide_at.ensures, sym c.trigger.ensures, sym c.ticks-held.ensures.made, sym c.release.ensures)
    (whole-line (then (then (part p.0) c.ticks-held.ensures.laid) c.ticks-left.ensures.laid)
    (omega (arith, p.1, c.ticks-held.ensures.next_bound, c.ticks-left.ensures.next_bound))
    c.end_line.ensures.0)
