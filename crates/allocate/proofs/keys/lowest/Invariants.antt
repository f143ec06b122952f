-- `allocate::keys::lowest` meets its contract: the answer of all is the answer of those that are left, with the lowest so far. Assumes nothing.
use Prim.Native.Nat.{◌≤◌}
use mathlib.Core.Path.{◌≡◌}
use lib.ListN.{length, take, drop}
use Rattle.ranking.proofs.Scans.{lowest_from}
use Rattle.allocate.specs.Allocation.{place_of, told_place}
use Rattle.allocate.specs.Keys.{lowest_key}
use Rattle.allocate.proofs.keys.lowest.Given as goal

abbrev pub invariant-loop-i : goal.invariant-loop-i
invariant-loop-i l = (l.i ≤ length l.r-items) × (lowest_key (take l.n l.keys) l.bound ≡ lowest_from place_of (λ r. r) (told_place l.best) l.low l.i (drop l.i l.r-items))
