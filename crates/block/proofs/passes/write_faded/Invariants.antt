-- `block::passes::write_faded` meets its contract: cell by cell.
use Prim.Native.Nat.{◌+◌, ◌*◌, ◌≤◌}
use mathlib.Core.Path.{◌≡◌}
use lib.IntN.{pos}
use lib.ListN.{take}
use Rattle.block.specs.Cells.{Written, faded_at}
use Rattle.block.proofs.passes.write_faded.Given as goal

abbrev pub invariant-loop-k : goal.invariant-loop-k
invariant-loop-k l = (l.k ≤ l.len) × (l.mix ≡ l.t + l.k * l.step) × Written (pos 0) (faded_at l.gain l.t l.step l.first l.n l.second l.n2) 0 l.k (take l.len l.fn.out) l.cell-items
