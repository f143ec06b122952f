-- `bank::halve` meets its contract: what is left to probe answers for the whole search. The measure is how much that is.
use Rattle.bank.proofs.Steps.{Halving}
use Rattle.bank.proofs.halve.Given as goal

abbrev pub invariant-loop-size : goal.invariant-loop-size
invariant-loop-size l = Halving l.bytes l.count l.id l.low l.size

abbrev pub decreases-loop-size : goal.decreases-loop-size
decreases-loop-size l = l.size
