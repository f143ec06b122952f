-- Block after block. Assumes nothing.
use Rattle.buffers.proofs.Sounds.{level-end}
use Rattle.buffers.proofs.fill_levels.Goals as goal

pub returns : goal.returns
returns c = let a = c.args in level-end a.level a.p a.out.now c.loop-at.invariant c.loop-at-test.false
