-- `bank_writer::checks::starts_of` meets its contract: the first i + 1 starts stand.
use mathlib.Core.Path.{◌≡◌}
use Prim.Native.Nat.{ℕ, ◌*◌, ◌≤◌}
use lib.ListN.{length, get_or, take}
use Rattle.bank_writer.specs.Refusals.{total_of}
use Rattle.bank_writer.proofs.checks.starts_of.Given as goal

abbrev pub invariant-loop-i : goal.invariant-loop-i
invariant-loop-i l = (l.i ≤ 64) × (length l.starts ≡ 65) × (l.next ≡ total_of (take l.i l.fn.entries)) × (l.next ≤ 4294967295 * l.i) × ((k : ℕ) → k ≤ l.i → get_or l.starts k 0 ≡ total_of (take k l.fn.entries))
