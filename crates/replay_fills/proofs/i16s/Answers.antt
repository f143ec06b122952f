-- `replay_fills::i16s` meets its contract: the first n cells are lent blank.
use native.Mathlib.Omega.{arith}
use Rattle.buffers.specs.Buffers.{to_i16}
use Rattle.replay_cells.specs.Cells.{i16_text}
use Rattle.replay_fills.specs.Fills.{blank_i16}
use Rattle.replay_fills.proofs.Buffers.{short-i16, length-blank, blank_cells}
use Rattle.replay_fills.proofs.i16s.Goals as goal

pub shaped-requires : goal.shaped-requires
shaped-requires c = record { short = short-i16; few = omega (arith, c.requires, length-blank c.args.n blank_i16 c.requires) }

pub returns : goal.returns
returns c = blank_cells i16_text blank_i16 to_i16 c.args.shape c.args.n c.args.bytes.now c.args.e.now c.requires c.shaped.ensures
