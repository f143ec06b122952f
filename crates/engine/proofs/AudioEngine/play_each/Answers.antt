-- The requests go to the engine's state as one of the present rules, and the mixer's state comes out of it again. Assumes nothing.
use Rattle.engine.proofs.Requests.{each-lifted}
use Rattle.engine.proofs.AudioEngine.play_each.Goals as goal

pub returns : goal.returns
returns c = rw c.self.view_is at (each-lifted (rw c.lifted-lifted.ensures at c.play_each-p.ensures))
