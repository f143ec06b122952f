-- `replay_fields::put_voice` meets its contract: three texts, one after the other.
use native.Mathlib.Omega.{arith}
use Rattle.hex_digits.proofs.Texts.{then}
use Rattle.replay_fields.proofs.put_voice.Goals as goal

pub returns : goal.returns
returns c =
    (then (then c.put_source-n1.ensures.0 c.put_adsr-n2.ensures.0) c.put_four.ensures.0, omega (arith, c.put_four.ensures.1, c.put_adsr-n2.ensures.1, c.put_source-n1.ensures.1))
