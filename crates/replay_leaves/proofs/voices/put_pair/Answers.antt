-- `replay_leaves::voices::put_pair` meets its contract: two texts, one after the other.
use native.Mathlib.Omega.{arith}
use Rattle.hex_digits.proofs.Texts.{then, shown}
use Rattle.replay_leaves.proofs.voices.put_pair.Goals as goal

pub returns : goal.returns
returns c =
    (then (shown 4 c.left_number.ensures c.put-n.ensures.0) (shown 2 c.right_number.ensures c.put.ensures.0), omega (arith, c.put.ensures.1, c.put-n.ensures.1))
