-- `replay_fills::i32s` meets its contract: the first n cells are lent blank.
use native.Mathlib.Omega.{arith}
use Rattle.buffers.specs.Buffers.{to_i32}
use Rattle.replay_cells.specs.Cells.{i32_text}
use Rattle.replay_fills.specs.Fills.{blank_i32}
use Rattle.replay_fills.proofs.Buffers.{short-i32, length-blank, blank_cells}
use Rattle.replay_fills.proofs.i32s.Goals as goal

pub shaped-requires : goal.shaped-requires
shaped-requires c = record { short = short-i32; few = omega (arith, c.requires, length-blank c.args.n blank_i32 c.requires) }

pub returns : goal.returns
returns c = blank_cells i32_text blank_i32 to_i32 c.args.shape c.args.n c.args.bytes.now c.args.e.now c.requires c.shaped.ensures
