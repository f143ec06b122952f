-- `replay_patterns::put_answer` meets its contract: three texts, one after the other.
use mathlib.Core.Path.{◌∙◌}
use native.Mathlib.Omega.{arith}
use Rattle.hex_digits.proofs.Texts.{then, whole, shown}
use Rattle.replay_patterns.proofs.put_answer.Goals as goal
use Rattle.replay_patterns.proofs.Bytes.{as_byte}

pub returns : goal.returns
returns c =
    whole (then (then (shown 2 c.from.ensures c.put-n.ensures.0) (shown 2 (c.from-2.ensures ∙ as_byte _) c.put-m.ensures.0)) c.end_line.ensures.0)
    (omega (arith, c.put-n.ensures.1, c.put-m.ensures.1, c.end_line.ensures.1))
