-- Part after part. Assumes nothing.
use Rattle.filling.proofs.Laws.{Shaped}
use Rattle.filling.proofs.fill.Given as goal

abbrev pub invariant-loop-left : goal.invariant-loop-left
invariant-loop-left g l = Shaped g.C.Cell.scaled l.shape l.bytes l.initial.state l.initial.out l.state l.at l.left l.out

abbrev pub decreases-loop-left : goal.decreases-loop-left
decreases-loop-left g l = l.left
