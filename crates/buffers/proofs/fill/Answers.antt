-- Block after block. Assumes nothing.
use Rattle.buffers.proofs.Sounds.{shape-turn, shape-end}
use Rattle.buffers.proofs.fill.Goals as goal

pub loop-n-preserved : goal.loop-n-preserved
loop-n-preserved g c =
    let a = c.args in
    shape-turn g.C.Cell.scaled a.shape a.p a.out.now c.sided-sides.ensures c.loop-n.invariant c.sound-state.ensures c.lay-k.ensures c.put.ensures c.span-n-in-loop-n.ensures

pub returns : goal.returns
returns g c = let a = c.args in shape-end g.C.Cell.scaled a.shape a.p a.out.now c.loop-n.invariant c.loop-n-test.false
