-- The lifted state fills as the engine's own does. Assumes nothing.
use Rattle.buffers.proofs.Lifted.{level-lifted}
use Rattle.engine.proofs.AudioEngine.fill_u16.Goals as goal

pub returns : goal.returns
returns c = rw c.self.view_is at (level-lifted c.args.level c.self.inside.state (rw c.lifted.ensures at c.fill_u16-f.ensures))
