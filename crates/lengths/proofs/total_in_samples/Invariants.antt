-- `lengths::total_in_samples` meets its contract. So far the samples and the rest are those of the lengths passed.
use Prim.Native.Nat.{ℕ, ◌*◌, ◌/◌, ◌%◌, min}
use mathlib.Core.Path.{◌≡◌}
use mathlib.Core.List.{List}
use lib.ListN.{take}
use Rattle.lengths.specs.Lengths.{total_ms}
use Rattle.lengths.proofs.total_in_samples.Given as goal

pub record Passed (lengths : List ℕ) (rate s r : ℕ) : Type 0 where
  pub samples : s ≡ min (total_ms lengths * rate / 1000) 18446744073709551615
  pub rest : r ≡ total_ms lengths * rate % 1000

-- the lengths before the next one are passed
abbrev pub invariant-loop-ms : goal.invariant-loop-ms
invariant-loop-ms l = Passed (take l.ms-index l.lengths) l.sample_rate_hz l.samples l.remainder
