-- `hex_digits::end_line` meets its contract: one byte, or none past the end.
use mathlib.Core.Path.{refl}
use native.Mathlib.Omega.{arith}
use Rattle.hex_digits.proofs.Texts.{laid_none, part}
use Rattle.hex_digits.proofs.end_line.Goals as goal

pub returns-then-at-ge262144 : goal.returns-then-at-ge262144
returns-then-at-ge262144 c = (laid_none _ _ _ c.if-at-ge262144.true, omega arith)

pub returns : goal.returns
returns c = (part (record { laid = refl; place = refl; room = omega arith }), omega arith)
