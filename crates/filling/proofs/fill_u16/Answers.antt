-- Part after part. Assumes nothing.
use native.Mathlib.Omega.{arith}
use Rattle.buffers.proofs.Settled.{level-order}
use Rattle.filling.proofs.Laws.{level-turn, level-end}
use Rattle.filling.proofs.fill_u16.Goals as goal

pub loop-left-preserved : goal.loop-left-preserved
loop-left-preserved c =
    let a = c.args in
    level-turn a.level a.bytes.now a.s a.out.now c.loop-left.invariant (omega (arith, c.loop-left-test.true)) c.enter-state.ensures c.at_once-n.ensures
    c.fill_u16-f.ensures c.settled-state.ensures

pub settled-state-requires : goal.settled-state-requires
settled-state-requires c = level-order c.args.level c.enter-state.result.present c.enter-state.ensures.valid.present c.fill_u16-f.ensures

pub returns : goal.returns
returns c =
    let a = c.args in level-end a.level a.bytes.now a.s a.out.now c.loop-left.invariant (omega (arith, c.loop-left-test.false))
