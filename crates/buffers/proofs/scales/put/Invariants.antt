-- What is left to store is what there was. Assumes nothing.
use Rattle.buffers.proofs.Putting.{Putting, scaled_from}
use Rattle.buffers.proofs.scales.put.Given as goal

abbrev pub invariant-loop-i : goal.invariant-loop-i
invariant-loop-i g l = Putting (scaled_from g.C.Cell.scaled l.samples 0) (scaled_from g.C.Cell.scaled l.samples l.i) l.i l.cells
