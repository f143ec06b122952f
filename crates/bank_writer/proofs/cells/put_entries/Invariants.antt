-- `bank_writer::cells::put_entries` meets its contract: what is left to write is what there was.
use mathlib.Core.Path.{◌≡◌}
use Prim.Native.Nat.{◌+◌, ◌*◌, ◌≤◌}
use lib.ListN.{length, take, drop}
use lib.Seq.{sets}
use Rattle.bank.specs.Entries.{place_of}
use Rattle.bank_writer.specs.Layout.{table}
use Rattle.bank_writer.specs.Places.{picked_entries}
use Rattle.bank_writer.proofs.cells.put_entries.Given as goal

abbrev pub invariant-loop-k : goal.invariant-loop-k
invariant-loop-k l =
    (l.k ≤ l.count) × (length l.out ≡ length l.initial.out) × (l.offset ≤ 1034 + 4294967295 * l.k)
    × (sets l.out (10 + 16 * l.k) (table l.offset (picked_entries l.entries (drop l.k (take l.count l.places)))) ≡ sets l.initial.out 10 (table (place_of l.count) (picked_entries l.entries (take l.count l.places))))
