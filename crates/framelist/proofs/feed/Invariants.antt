-- The measure is what is left of the chunk.
use Prim.Native.Nat.{◌-◌}
use lib.ListN.{length}
use Rattle.framelist.proofs.feed.Given as goal

abbrev pub decreases-loop-i : goal.decreases-loop-i
decreases-loop-i g l = length l.chunk - l.i
