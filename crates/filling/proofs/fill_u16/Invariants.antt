-- Part after part. Assumes nothing.
use Rattle.filling.proofs.Laws.{Leveled}
use Rattle.filling.proofs.fill_u16.Given as goal

abbrev pub invariant-loop-left : goal.invariant-loop-left
invariant-loop-left l = Leveled l.level l.bytes l.initial.state l.initial.out l.state l.at l.left l.out

abbrev pub decreases-loop-left : goal.decreases-loop-left
decreases-loop-left l = l.left
