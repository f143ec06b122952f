-- The answer of all is the answer of those that are left, with the lowest so far. Assumes nothing.
use Prim.Native.Nat.{◌≤◌}
use mathlib.Core.Path.{◌≡◌}
use lib.ListN.{length, drop}
use Rattle.ranking.specs.Rule.{first_lowest}
use Rattle.ranking.proofs.Scans.{lowest_from}
use Rattle.allocate.specs.Allocation.{place_of, told_place, priority_of}
use Rattle.allocate.proofs.first_lowest.Given as goal

abbrev pub invariant-loop-i : goal.invariant-loop-i
invariant-loop-i l = (l.i ≤ length l.voices) × (place_of (first_lowest priority_of l.voices l.priority) ≡ lowest_from place_of priority_of (told_place l.best) l.lowest l.i (drop l.i l.voices))
