-- `fixed::floats::float_of` meets its contract: a pattern above that of infinity is a NaN's.
use Rattle.std.proofs.Common.{◌≡◌, true, sym, refl, ◌∙◌, true≢false, le-ltb, lt-ltb}
use lib.Ieee.{Float, binary32, nan, inf, fin, of_bits, is_nan}
use lib.Ieee.Bits.{nan_bits_above, nan_bits_is}
use Rattle.fixed.proofs.floats.float_of.Goals as goal

is-nan : (x : Float) → is_nan x ≡ true → nan ≡ x
unfolding is_nan
is-nan nan e = refl
is-nan (inf s) e = absurd (true≢false (sym e))
is-nan (fin s m x) e = absurd (true≢false (sym e))

pub float_from_bits-result : goal.float_from_bits-result
float_from_bits-result c = rw (nan_bits_above, le-ltb _ _ c.if-bits-gt2139095040.false) tt

pub returns-then-bits-gt2139095040 : goal.returns-then-bits-gt2139095040
unfolding of_bits
returns-then-bits-gt2139095040 c =
    let n = c.args.bits in
    is-nan (of_bits binary32 n) (sym (nan_bits_is binary32 n) ∙ nan_bits_above binary32 n ∙ lt-ltb _ _ c.if-bits-gt2139095040.true)
