-- `replay_fields::put_adsr` meets its contract: three texts, one after the other.
use native.Mathlib.Omega.{arith}
use mathlib.Core.Path.{sym}
use Rattle.hex_digits.proofs.Texts.{then}
use Rattle.replay_fields.proofs.put_adsr.Goals as goal

pub returns : goal.returns
returns c =
    (rw (sym c.phase_number.ensures) (then (then c.put_four-times.ensures.0 c.put_four-state.ensures.0) c.put.ensures.0), omega (arith, c.put.ensures.1, c.put_four-state.ensures.1, c.put_four-times.ensures.1))
