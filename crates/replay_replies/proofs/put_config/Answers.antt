-- `replay_replies::put_config` meets its contract: five texts, one after the other.
use native.Mathlib.Omega.{arith}
use Rattle.hex_digits.proofs.Texts.{shown, then, whole}
use Rattle.replay_replies.proofs.put_config.Goals as goal

pub returns : goal.returns
returns c =
    whole (then (then (then (then c.put-n1.ensures.0 c.put-n2.ensures.0) (shown 2 c.mode_number.ensures c.put-n3.ensures.0)) c.put-n4.ensures.0) c.end_line.ensures.0)
    (omega (arith, c.put-n1.ensures.1, c.put-n2.ensures.1, c.put-n3.ensures.1, c.put-n4.ensures.1, c.end_line.ensures.1))
