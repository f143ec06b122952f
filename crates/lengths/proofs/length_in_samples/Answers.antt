-- `lengths::length_in_samples` meets its contract: nothing is carried.
use native.Mathlib.Omega.{arith}
use Prim.Native.Nat.{ℕ, ◌+◌, ◌*◌}
use mathlib.Core.Path.{◌≡◌, ◌∙◌}
use Rattle.lengths.specs.Lengths.{carrying, length_of}
use Rattle.lengths.proofs.length_in_samples.Goals as goal

none : (ms rate : ℕ) → carrying ms rate 0 ≡ length_of ms rate
unfolding carrying length_of
none ms rate = let e : ms * rate + 0 ≡ ms * rate = omega arith in rw e

pub returns : goal.returns
returns c = c.length_carrying.ensures ∙ none _ _
