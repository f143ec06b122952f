-- `replay_fields::put_fm` meets its contract: four texts, one after the other.
use native.Mathlib.Omega.{arith}
use mathlib.Core.Path.{sym}
use Rattle.hex_digits.proofs.Texts.{then}
use Rattle.replay_fields.proofs.put_fm.Goals as goal

pub returns : goal.returns
returns c =
    (rw (sym c.flag_number.ensures) (then (then (then c.put_four-n4.ensures.0 c.put-n5.ensures.0) c.put-n6.ensures.0) c.put.ensures.0), omega (arith, c.put.ensures.1, c.put-n6.ensures.1, c.put-n5.ensures.1, c.put_four-n4.ensures.1))
