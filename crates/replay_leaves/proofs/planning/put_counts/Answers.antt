-- `replay_leaves::planning::put_counts` meets its contract: four texts, one after the other.
use native.Mathlib.Omega.{arith}
use Rattle.hex_digits.proofs.Texts.{then, whole}
use Rattle.replay_leaves.proofs.planning.put_counts.Goals as goal

pub returns : goal.returns
returns c =
    whole (then (then (then c.put-n.ensures.0 c.put-m.ensures.0) c.put-k.ensures.0) c.end_line.ensures.0)
    (omega (arith, c.put-n.ensures.1, c.put-m.ensures.1, c.put-k.ensures.1, c.end_line.ensures.1))
