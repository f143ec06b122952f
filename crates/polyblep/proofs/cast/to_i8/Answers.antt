-- `polyblep::cast::to_i8` meets its contract, by where x lies; a negative one is cut as its opposite.
use Rattle.std.proofs.Common.{◌≤◌, T, pos, neg_ℤ, sym, subst, arith, w8, SFits}
use lib.Ieee.{of_bits, round, neg, to_unsigned}
use lib.Ieee.Casts.{to_unsigned-lt}
use mir.ValLaws.{to_z-of_z}
use Rattle.laws.proofs.Signed.{to_z-nat, neg-fits, zero-sub}
use Rattle.polyblep.proofs.Cut.{Negated, byte, above, high, negated, low, none}
use Rattle.polyblep.proofs.cast.to_i8.Goals.{After-whole_part-then-x-4, Then-x-4}
use Rattle.polyblep.proofs.cast.to_i8.Goals as goal

opposite : (c : Then-x-4) → Negated c.args.x
unfolding of_bits neg
opposite c = negated c.args.x (subst T (sym c.if-x-3.true) tt) (subst T (sym c.if-x-4.true) tt)

minus : (c : After-whole_part-then-x-4) → SFits w8 (neg_ℤ (pos (to_unsigned 7 (neg c.args.x))))
minus c =
    let x = c.args.x in
    let h : to_unsigned 7 (neg x) ≤ 127 = omega (arith, to_unsigned-lt 7 (neg x)) in
    neg-fits h tt

pub whole_part-requires : goal.whole_part-requires
unfolding of_bits round
whole_part-requires c = record { least = subst T (sym c.if-x.true) tt; most = subst T (sym c.if-x-2.true) tt }

pub overflow_cast-result : goal.overflow_cast-result
overflow_cast-result c = rw c.whole_part.ensures (byte c.args.x)

pub whole_part-requires-then-x-4 : goal.whole_part-requires-then-x-4
unfolding round
whole_part-requires-then-x-4 c = record { least = (opposite c).least; most = (opposite c).most }

pub overflow_cast-result-then-x-4 : goal.overflow_cast-result-then-x-4
overflow_cast-result-then-x-4 c = rw c.whole_part-then-x-4.ensures (byte (neg c.args.x))

pub overflow_sub-result : goal.overflow_sub-result
overflow_sub-result c =
    let x = c.args.x in
    rw (c.whole_part-then-x-4.ensures, to_z-nat (byte (neg x)), zero-sub) (minus c)

pub returns-then-x-2 : goal.returns-then-x-2
unfolding of_bits
returns-then-x-2 c =
    let x = c.args.x in
    rw (c.whole_part.ensures, to_z-nat (byte x)) (above x (subst T (sym c.if-x.true) tt))

pub returns-else-x-2 : goal.returns-else-x-2
unfolding of_bits
returns-else-x-2 c = high c.args.x (subst T (sym c.if-x.true) tt) c.if-x-2.false

pub returns-then-x-4 : goal.returns-then-x-4
returns-then-x-4 c =
    let x = c.args.x in
    rw (c.whole_part-then-x-4.ensures, to_z-nat (byte (neg x)), zero-sub, to_z-of_z w8 _ (minus c)) (opposite (goal.at.returns-then-x-4 c).Then-x-4).is

pub returns-else-x-4 : goal.returns-else-x-4
unfolding of_bits neg
returns-else-x-4 c = low c.args.x (subst T (sym c.if-x-3.true) tt) c.if-x-4.false

pub returns-else-x-3 : goal.returns-else-x-3
unfolding of_bits neg
returns-else-x-3 c = none c.args.x c.if-x.false c.if-x-3.false
