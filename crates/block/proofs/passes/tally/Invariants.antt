-- `block::passes::tally` meets its contract: cell by cell.
use Prim.Native.Nat.{◌≤◌}
use lib.ListN.{take}
use Rattle.block.specs.Cells.{Tallied}
use Rattle.block.proofs.passes.tally.Given as goal

abbrev pub invariant-loop-count : goal.invariant-loop-count
invariant-loop-count l = (l.count-index ≤ l.n) × Tallied l.count-index (take l.n l.fn.counts) l.count-items
