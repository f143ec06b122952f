-- `replay_leaves::runs::run_duties` meets its contract: three texts, one after the other.
use mathlib.Core.Path.{sym}
use native.Mathlib.Omega.{arith}
use Rattle.hex_digits.proofs.Texts.{then, part, whole}
use Rattle.replay_leaves.proofs.runs.run_duties.Goals as goal

pub returns : goal.returns
returns c =
    let p = c.put_line.ensures in
    rw (sym c.mapper_at.ensures.same, sym c.map_all-to.ensures.made.same)
    (whole (then (then (part (rw p.1 at p.0)) c.map_all-to.ensures.laid) c.put_mapper.ensures.0)
    (omega (arith, c.map_all-to.ensures.next_bound, c.put_mapper.ensures.1, c.requires)))
