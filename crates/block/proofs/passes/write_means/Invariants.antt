-- `block::passes::write_means` meets its contract: cell by cell.
use Prim.Native.Nat.{◌≤◌}
use lib.IntN.{pos}
use lib.ListN.{take, drop}
use Rattle.block.specs.Cells.{Written, mean_at}
use Rattle.block.proofs.passes.write_means.Given as goal

abbrev pub invariant-loop-k : goal.invariant-loop-k
invariant-loop-k l = (l.k ≤ l.len) × Written (pos 0) (mean_at l.gain l.sums l.counts 0) 0 l.k (take l.len (drop l.at l.fn.out)) l.cell-items
