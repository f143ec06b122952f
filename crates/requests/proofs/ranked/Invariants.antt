-- One rank after another. Assumes nothing.
use Prim.Native.Nat.{◌≤◌}
use mathlib.Core.Path.{◌≡◌}
use lib.ListN.{take, drop}
use mathlib.Core.List.{◌++◌}
use Rattle.requests.specs.Steps.{ranked_by}
use Rattle.requests.proofs.ranked.Given as goal

abbrev pub invariant-loop-i : goal.invariant-loop-i
invariant-loop-i l = (l.i ≤ 16) × (l.k-items ≡ take l.i (ranked_by l.keys l.fn.rules) ++ drop l.i l.fn.rules)
