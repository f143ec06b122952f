-- The frames of the box that is open. Assumes nothing.
use Rattle.replay_box.proofs.Along.{shape-sounder, shape-engine}
use Rattle.replay_box.proofs.OpenBox.fill.Goals as goal

pub returns-in-Engine : goal.returns-in-Engine
returns-in-Engine g c = rw c.in-Engine.is (shape-engine _ c.args.shape c.args.bytes.now _ c.fill.ensures)

pub returns-in-Sounder : goal.returns-in-Sounder
returns-in-Sounder g c = rw c.in-Sounder.is (shape-sounder _ c.args.shape c.args.bytes.now _ c.fill-in-Sounder.ensures)
