-- Decibels as the source approximates them, every operation a rounded binary32 one in its order. Assumes nothing.
use Rattle.std.specs.Prelude.{ℕ, ◌+◌, ◌/◌, ◌%◌, ◌^◌, cond, pos, ◌-ℤ◌, ◌==◌, from_bits, to_bits, Float}
use Rattle.std.specs.Float.{binary32}
use Rattle.std.specs.Float.Ieee.{le, neg, of_int, to_unsigned}
use Rattle.laws.specs.F32.{◌⊕◌, ◌⊖◌, ◌⊗◌, ◌⊘◌, lit, held_to_f}

-- held to 0..255 and cut to a byte toward zero; a NaN gives 0
unfoldable pub cut_to_byte : Float → ℕ
cut_to_byte x = to_unsigned 8 (held_to_f (lit 0 1) (lit 255 1) x)

-- 10^x as 1 + 2.3026x + 2.651x² + 2.03x³
unfoldable pub ten_to : Float → Float
ten_to x = lit 1 1 ⊕ lit 23026 10000 ⊗ x ⊕ lit 2651 1000 ⊗ x ⊗ x ⊕ lit 203 100 ⊗ x ⊗ x ⊗ x

-- 255 from 0 dB up, 0 from −48 dB down, between them 255 times 10^(dB ÷ 20)
unfoldable pub gain_of_db : Float → ℕ
gain_of_db db =
    cond (le (lit 0 1) db) 255
    (cond (le db (neg (lit 48 1))) 0
    (cut_to_byte (ten_to (db ⊘ lit 20 1) ⊗ lit 255 1)))

-- log2 x by the exponent's field and a parabola over the significand s, less 1
unfoldable pub log2_of : Float → Float
log2_of x =
    let bits = to_bits binary32 x in
    let s = from_bits binary32 (bits % 2 ^ 23 + 0x3F80_0000) ⊖ lit 1 1 in
    of_int binary32 (pos (bits / 2 ^ 23 % 256) -ℤ pos 127) ⊕ s ⊗ (lit 14427 10000 ⊖ lit 4427 10000 ⊗ s)

-- −96 dB for gain 0, else 20 log10 (gain ÷ 255), held to −96..0
unfoldable pub db_of_gain : ℕ → Float
db_of_gain gain =
    cond (gain == 0) (neg (lit 96 1))
    (held_to_f (neg (lit 96 1)) (lit 0 1) (lit 20 1 ⊗ (log2_of (of_int binary32 (pos gain) ⊘ lit 255 1) ⊗ lit 30103 100000)))
