-- `replay_fills::u16s` meets its contract: the first n cells are lent blank, and what the call left is printed whole.
use Rattle.replay_fills.proofs.Buffers.{blank_levels}
use Rattle.replay_fills.proofs.u16s.Goals as goal

pub returns : goal.returns
returns c = blank_levels c.args.level c.args.n c.args.bytes.now c.requires (c.fill_u16-filled.auto.out, c.fill_u16-filled.ensures) c.put_cells.ensures
