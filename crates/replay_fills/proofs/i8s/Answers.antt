-- `replay_fills::i8s` meets its contract: the first n cells are lent blank.
use native.Mathlib.Omega.{arith}
use Rattle.buffers.specs.Buffers.{to_i8}
use Rattle.replay_cells.specs.Cells.{i8_text}
use Rattle.replay_fills.specs.Fills.{blank_i8}
use Rattle.replay_fills.proofs.Buffers.{short-i8, length-blank, blank_cells}
use Rattle.replay_fills.proofs.i8s.Goals as goal

pub shaped-requires : goal.shaped-requires
shaped-requires c = record { short = short-i8; few = omega (arith, c.requires, length-blank c.args.n blank_i8 c.requires) }

pub returns : goal.returns
returns c = blank_cells i8_text blank_i8 to_i8 c.args.shape c.args.n c.args.bytes.now c.args.e.now c.requires c.shaped.ensures
