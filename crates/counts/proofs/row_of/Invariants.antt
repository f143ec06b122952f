-- `counts::row_of` meets its contract: a row for each length. Assumes nothing.
use Rattle.std.proofs.Common.{◌≡◌}
use Rattle.counts.specs.Rows.{row_of}
use Rattle.counts.proofs.row_of.Given as goal

abbrev pub invariant-loop : goal.invariant-loop
invariant-loop l = l.row ≡ row_of l.high l.low l.counter
