-- `hex_digits::bytes_from` meets its contract: what is stored so far is the first i bytes.
use Prim.Native.Nat.{ℕ, suc, ◌+◌}
use Rattle.laws.proofs.Stores.{Wrote}
use Rattle.hex_digits.specs.Hex.{byte_at}
use Rattle.hex_digits.proofs.bytes_from.Given as goal

abbrev pub invariant-loop-i : goal.invariant-loop-i
invariant-loop-i l = Wrote suc (λ (j : ℕ). byte_at l.l j) l.k l.initial.cell-items 0 l.i (l.k + l.i) l.cell-items
