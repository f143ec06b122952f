-- `counts::lengthen` meets its contract: one count after another. Assumes nothing.
use Rattle.counts.proofs.Rows.{Lengthening}
use Rattle.counts.proofs.lengthen.Given as goal

abbrev pub invariant-loop-x : goal.invariant-loop-x
invariant-loop-x l = Lengthening l.high l.low l.initial.x-items l.x-index l.before l.x-items
