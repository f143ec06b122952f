-- What is left to store is what there was. Assumes nothing.
use Prim.Native.Nat.{◌*◌}
use Rattle.buffers.proofs.Putting.{Putting, sides_from}
use Rattle.buffers.proofs.scales.put_sides.Given as goal

abbrev pub invariant-loop-i : goal.invariant-loop-i
invariant-loop-i l = Putting (sides_from l.left l.right 0) (sides_from l.left l.right l.i) (2 * l.i) l.cells
