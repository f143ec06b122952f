-- `replay_leaves::leaves::gain_to_decibels` meets its contract. Its decibels are no NaN, by a test over the 256 gains.
use mathlib.Core.Path.{sym, subst}
use mathlib.Core.Bool.{not}
use Prim.Native.Nat.{ℕ, ◌<◌}
use native.Mathlib.Omega.{arith}
use lib.Dec.{T}
use lib.Ieee.{binary32, to_bits, div, mul, add, sub, neg, lt, of_int, of_bits, round, is_nan}
use lib.Ieee.Bits.{to_bits-lt}
use Rattle.laws.specs.F32.{held_to_f}
use Rattle.laws.proofs.Finite.{below}
use Rattle.fixed.specs.Decibels.{log2_of, db_of_gain}
use Rattle.replay_leaves.specs.Replies.{to_decibels_reply}
use Rattle.replay_leaves.proofs.leaves.gain_to_decibels.Goals as goal

some : (g : ℕ) → g < 256 → T (not (is_nan (db_of_gain g)))
unfolding is_nan db_of_gain log2_of held_to_f div mul add sub neg lt of_int of_bits to_bits round
some g h = below (λ k. not (is_nan (db_of_gain k))) 256 tt g h

pub float_to_bits-value : goal.float_to_bits-value
float_to_bits-value c = rw c.q8_to_db-value.ensures (some c.byte_at.result (omega arith))

pub overflow_cast-result : goal.overflow_cast-result
overflow_cast-result c =
    record { fits = omega (arith, to_bits-lt binary32 c.q8_to_db-value.result (subst T (sym c.q8_to_db-value.type_inv) tt)) }

pub returns : goal.returns
unfolding to_decibels_reply
returns c = cc
