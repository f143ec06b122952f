-- The place is in the chunk. The measure is what is left of the chunk.
use Prim.Native.Nat.{◌-◌, ◌≤◌}
use lib.ListN.{length}
use Rattle.replay.proofs.feed.Given as goal

abbrev pub invariant-loop-i : goal.invariant-loop-i
invariant-loop-i g l = l.i ≤ length l.chunk

abbrev pub decreases-loop-i : goal.decreases-loop-i
decreases-loop-i g l = length l.chunk - l.i
