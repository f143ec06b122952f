-- `replay_fields::put_tone` meets its contract: three texts, one after the other.
use native.Mathlib.Omega.{arith}
use mathlib.Core.Path.{sym}
use Rattle.hex_digits.proofs.Texts.{then}
use Rattle.replay_fields.proofs.put_tone.Goals as goal

pub returns : goal.returns
returns c =
    (rw (sym c.tone_number.ensures, sym c.flag_number.ensures) (then (then c.put_four-n4.ensures.0 c.put-n5.ensures.0) c.put.ensures.0), omega (arith, c.put.ensures.1, c.put-n5.ensures.1, c.put_four-n4.ensures.1))
