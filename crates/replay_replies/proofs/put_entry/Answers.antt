-- `replay_replies::put_entry` meets its contract: nine texts, one after the other.
use mathlib.Core.Path.{◌∙◌}
use native.Mathlib.Omega.{arith}
use Rattle.hex_digits.proofs.Texts.{shown, then, whole}
use Rattle.replay_replies.proofs.put_entry.Goals as goal

pub returns : goal.returns
returns c =
    whole (then (then (then (then (then (then (then (then c.put-n1.ensures.0 (shown 2 (c.from-2.ensures ∙ c.from.ensures) c.put-n2.ensures.0)) c.put-n3.ensures.0) c.put-n4.ensures.0) c.put-n5.ensures.0) c.put-n6.ensures.0) c.put-n7.ensures.0) c.put-n8.ensures.0) c.end_line.ensures.0)
    (omega (arith, c.put-n1.ensures.1, c.put-n2.ensures.1, c.put-n3.ensures.1, c.put-n4.ensures.1, c.put-n5.ensures.1, c.put-n6.ensures.1, c.put-n7.ensures.1, c.put-n8.ensures.1, c.end_line.ensures.1))
