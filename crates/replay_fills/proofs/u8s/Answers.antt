-- `replay_fills::u8s` meets its contract: the first n cells are lent blank.
use native.Mathlib.Omega.{arith}
use Rattle.output.specs.Levels.{raised}
use Rattle.replay_cells.specs.Cells.{byte_text}
use Rattle.replay_fills.specs.Fills.{blank_u8}
use Rattle.replay_fills.proofs.Buffers.{short-u8, length-blank, blank_cells}
use Rattle.replay_fills.proofs.u8s.Goals as goal

pub shaped-requires : goal.shaped-requires
shaped-requires c = record { short = short-u8; few = omega (arith, c.requires, length-blank c.args.n blank_u8 c.requires) }

pub returns : goal.returns
returns c = blank_cells byte_text blank_u8 raised c.args.shape c.args.n c.args.bytes.now c.args.e.now c.requires c.shaped.ensures
