-- `block::passes::add` meets its contract: cell by cell.
use Prim.Native.Nat.{◌≤◌}
use mathlib.Core.List.{◌++◌}
use lib.ListN.{drop}
use Rattle.block.specs.Cells.{Added}
use Rattle.block.proofs.passes.add.Given as goal

abbrev pub invariant-loop-k : goal.invariant-loop-k
invariant-loop-k l = (l.k ≤ l.n) × Added l.samples l.gain l.k l.fn.sums (l.sum-items ++ drop l.n l.fn.sums)
