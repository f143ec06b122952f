-- The frames of the box that is open. Assumes nothing.
use Rattle.replay_box.proofs.Along.{level-sounder, level-engine}
use Rattle.replay_box.proofs.OpenBox.fill_u16.Goals as goal

pub returns-in-Engine : goal.returns-in-Engine
returns-in-Engine c = rw c.in-Engine.is (level-engine c.args.level c.args.bytes.now _ c.fill_u16.ensures)

pub returns-in-Sounder : goal.returns-in-Sounder
returns-in-Sounder c = rw c.in-Sounder.is (level-sounder c.args.level c.args.bytes.now _ c.fill_u16-in-Sounder.ensures)
