-- `bank_writer::cells::put_payloads` meets its contract: what is left to write is what there was.
use mathlib.Core.Path.{◌≡◌}
use Prim.Native.Nat.{◌+◌, ◌≤◌}
use lib.ListN.{length, take, drop}
use lib.Seq.{sets}
use Rattle.bank.specs.Entries.{place_of}
use Rattle.bank_writer.specs.Places.{slices_of}
use Rattle.bank_writer.proofs.cells.put_payloads.Given as goal

abbrev pub invariant-loop-place : goal.invariant-loop-place
invariant-loop-place l =
    (l.place-index ≤ l.count) × (length l.out ≡ length l.initial.out) × (l.at + length (slices_of l.starts l.payloads (drop l.place-index (take l.count l.places))) ≤ length l.initial.out)
    × (sets l.out l.at (slices_of l.starts l.payloads (drop l.place-index (take l.count l.places))) ≡ sets l.initial.out (place_of l.count) (slices_of l.starts l.payloads (take l.count l.places)))
