-- Block after block. Assumes nothing.
use Prim.Native.Nat.{◌-◌}
use Rattle.buffers.proofs.Sounds.{Shaping}
use Rattle.buffers.proofs.fill.Given as goal

abbrev pub invariant-loop-n : goal.invariant-loop-n
invariant-loop-n g l = Shaping g.C.Cell.scaled l.shape l.initial.state l.initial.out l.state l.at l.n l.out

abbrev pub decreases-loop-n : goal.decreases-loop-n
decreases-loop-n g l = l.len - l.at
