-- `hex_digits::put` meets its contract: what is left to lay of the rest is what there was to lay.
use Prim.Native.Nat.{◌≤◌}
use Rattle.hex_digits.proofs.Texts.{Digits}
use Rattle.hex_digits.proofs.put.Given as goal

abbrev pub invariant-loop-place : goal.invariant-loop-place
invariant-loop-place l = (l.at ≤ l.place) × Digits l.initial.out l.at l.digits l.value l.out l.place l.rest
