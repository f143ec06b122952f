-- Key after key. Assumes nothing.
use Prim.Native.Nat.{◌≤◌}
use mathlib.Core.Path.{◌≡◌}
use Rattle.laws.specs.Lists.{map_first}
use Rattle.allocate.specs.Keys.{lowered}
use Rattle.allocate.proofs.keys.lower.Given as goal

abbrev pub invariant-loop-key : goal.invariant-loop-key
invariant-loop-key l = (l.key-index ≤ 16) × (l.keys ≡ map_first (lowered l.limit) l.key-index l.initial.keys)
