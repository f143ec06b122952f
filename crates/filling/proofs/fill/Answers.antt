-- Part after part. Assumes nothing.
use native.Mathlib.Omega.{arith}
use Rattle.buffers.proofs.Settled.{shape-order}
use Rattle.filling.proofs.Laws.{shape-turn, shape-end}
use Rattle.filling.proofs.fill.Goals as goal

pub loop-left-preserved : goal.loop-left-preserved
loop-left-preserved g c =
    let a = c.args in
    shape-turn g.C.Cell.scaled a.shape a.bytes.now a.s a.out.now c.loop-left.invariant (omega (arith, c.loop-left-test.true)) c.enter-state.ensures c.at_once-n.ensures
    (rw c.wide.ensures) c.fill-f.ensures c.settled-state.ensures

pub settled-state-requires : goal.settled-state-requires
settled-state-requires g c =
    shape-order g.C.Cell.scaled c.args.shape c.enter-state.result.present c.enter-state.ensures.valid.present c.fill-f.ensures

pub returns : goal.returns
returns g c =
    let a = c.args in shape-end g.C.Cell.scaled a.shape a.bytes.now a.s a.out.now c.loop-left.invariant (omega (arith, c.loop-left-test.false))
