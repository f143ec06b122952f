-- Block after block. Assumes nothing.
use Prim.Native.Nat.{◌-◌}
use Rattle.buffers.proofs.Sounds.{Levelling}
use Rattle.buffers.proofs.fill_levels.Given as goal

abbrev pub invariant-loop-at : goal.invariant-loop-at
invariant-loop-at l = Levelling l.level l.initial.state l.initial.out l.state l.at l.out

abbrev pub decreases-loop-at : goal.decreases-loop-at
decreases-loop-at l = l.len - l.at
