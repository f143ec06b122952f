-- Key after key. Assumes nothing.
use native.Mathlib.Omega.{arith}
use Rattle.laws.proofs.Lists.{map_first-step}
use Rattle.allocate.specs.Keys.{lowered}
use Rattle.allocate.proofs.keys.lower.Goals as goal

pub loop-key-preserved : goal.loop-key-preserved
loop-key-preserved c = (omega arith, rw (c.lowered_key.ensures, c.loop-key.invariant.1) (map_first-step (lowered _) _ _ c.loop-key.key-index))
