-- `allocate::keys::keys_of` meets its contract: one key after another. Assumes nothing.
use Prim.Native.Nat.{◌≤◌}
use mathlib.Core.Path.{◌≡◌}
use mathlib.Core.List.{map}
use lib.ListN.{length, take}
use Rattle.allocate.specs.Allocation.{with_ranks}
use Rattle.allocate.specs.Keys.{aged_key}
use Rattle.allocate.proofs.keys.keys_of.Given as goal

abbrev pub invariant-loop-i : goal.invariant-loop-i
invariant-loop-i l = (l.i ≤ 16) × (take l.i l.keys ≡ map (aged_key l.present) (take l.i (with_ranks l.fn.voices l.marks))) × (length l.keys ≡ 16)
