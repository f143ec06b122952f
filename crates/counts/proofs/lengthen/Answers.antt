-- `counts::lengthen` meets its contract: one count after another. Assumes nothing.
use Rattle.std.proofs.Common.{arith}
use Rattle.counts.proofs.Rows.{lengthening-step, lengthening-end}
use Rattle.counts.proofs.lengthen.Goals as goal

pub loop-x-preserved : goal.loop-x-preserved
loop-x-preserved c = lengthening-step _ _ _ _ _ _ c.loop-x.invariant (omega arith)

pub returns : goal.returns
returns c = lengthening-end _ _ _ _ _ _ c.loop-x.invariant (omega arith)
