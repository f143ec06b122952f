-- The lifted state fills as the engine's own does. Assumes nothing.
use Rattle.buffers.proofs.Lifted.{shape-lifted}
use Rattle.engine.proofs.AudioEngine.fill.Goals as goal

pub returns : goal.returns
returns _ c = rw c.self.view_is at (shape-lifted _ c.args.shape c.self.inside.state (rw c.lifted.ensures at c.fill-f.ensures))
