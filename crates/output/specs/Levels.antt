-- The bus limiter and the scales of other converters. Assumes nothing.
use Rattle.std.specs.Prelude.{ℕ, cond, ℤ, pos, nat_abs, ◌+ℤ◌}
use Rattle.std.specs.Int.Signed.{lt_z}
use Rattle.laws.specs.Whole.{neg}
use Rattle.error.specs.Told.{Told, value, refused}
use Rattle.fixed.specs.Fixed.{limited}

-- "Bus limiter alone | sum outside −2,048..2,032 | 11 BadSum"
abbrev pub limited_bus : ℤ → Told ℤ
limited_bus sum = cond (lt_z sum (neg 2048)) (refused 11) (cond (lt_z (pos 2032) sum) (refused 11) (value (limited sum)))

-- s + 128 of a sample s, which is 0..255: output.rs's scale without a sign
abbrev pub raised : ℤ → ℕ
raised s = nat_abs (s +ℤ pos 128)
