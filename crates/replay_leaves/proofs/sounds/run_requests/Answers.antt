-- `replay_leaves::sounds::run_requests` meets its contract: four texts, one after the other.
use mathlib.Core.Path.{sym}
use native.Mathlib.Omega.{arith}
use Rattle.hex_digits.proofs.Texts.{then, part, whole}
use Rattle.replay_leaves.proofs.sounds.run_requests.Goals as goal

pub returns : goal.returns
returns c =
    rw (sym c.requests-to.ensures.made.same)
    (whole (then (then (then (part c.put_line-n.ensures.0) c.requests-to.ensures.laid) c.put_source-end.ensures.0) c.end_line.ensures.0)
    (omega (arith, c.put_line-n.ensures.1, c.requires.1, c.requests-to.ensures.next_bound, c.put_source-end.ensures.1, c.end_line.ensures.1)))
