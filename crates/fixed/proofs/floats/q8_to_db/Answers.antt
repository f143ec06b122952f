-- `fixed::floats::q8_to_db` meets its contract. The quotient is no NaN, by a test over the 256 gains; the fields of its bits are small.
-- a quotient of small numbers is a number
use Rattle.std.proofs.Common.{◌≡◌, ℕ, suc, ◌+◌, ◌-◌, ◌/◌, ◌%◌, ◌^◌, ◌<◌, ◌≤◌, Bool, true, false, cond, not, T, ltb, pos, negsuc, ◌-ℤ◌, refl, arith, le→leb, lt→ltb, w32, SFits, ltb-true, le-ltb, eq-eqb, ne_eqb}
use lib.IntN.{sub_ℕ}
use lib.Ieee.{binary32, to_bits, div, of_int, of_bits, round, neg, is_nan, nan_bits, in_float}
use lib.Ieee.Bits.{nan_bits_above}
use mir.ValLaws.{to_z-of_z}
use Rattle.laws.proofs.Finite.{below}
use Rattle.laws.proofs.Signed.{sub-fits, to_z-nat}
use Rattle.fixed.specs.Decibels.{log2_of, db_of_gain}
use Rattle.fixed.proofs.floats.q8_to_db.Goals as goal

some : (g : ℕ) → g < 256 → T (not (is_nan (div binary32 (of_int binary32 (pos g)) (of_bits binary32 1132396544))))
unfolding is_nan div of_int round of_bits
some g h = below (λ k. not (is_nan (div binary32 (of_int binary32 (pos k)) (of_bits binary32 1132396544)))) 256 tt g h

-- what the two fields of a bit pattern are good for
record Fields (bits : ℕ) : Type 0 where
  field : SFits w32 (pos (bits / 8388608 % 256))
  exp : SFits w32 (pos (bits / 8388608 % 256) -ℤ pos 127)
  small : T (in_float binary32 (pos (bits / 8388608 % 256) -ℤ pos 127))
  number : T (not (nan_bits binary32 (bits % 8388608 + 1065353216)))

exact : (x : ℕ) → x ≤ 255 → T (in_float binary32 (sub_ℕ x 127))
unfolding in_float
exact x h = by-test (ltb x 127) refl
  where
    by-test : (t : Bool) → ltb x 127 ≡ t → T (in_float binary32 (cond t (negsuc (127 - suc x)) (pos (x - 127))))
    by-test true e = let l = ltb-true x 127 e in lt→ltb (127 - suc x) (2 ^ 24) (omega arith)
    by-test false e = le→leb (x - 127) (2 ^ 24) (omega arith)

fields : (bits : ℕ) → Fields bits
fields bits =
    record {
      field = record { sfits = omega arith };
      exp = sub-fits (bits / 8388608 % 256) 127 (omega arith) (omega arith);
      small = exact (bits / 8388608 % 256) (omega arith);
      number = rw (nan_bits_above, le-ltb 2139095040 ((bits % 8388608 + 1065353216) % 2147483648) (omega arith)) tt;
    }

abbrev bits_of : ℕ → ℕ
bits_of g = to_bits binary32 (div binary32 (of_int binary32 (pos g)) (of_bits binary32 1132396544))

pub returns-then-gain_q8-eq0 : goal.returns-then-gain_q8-eq0
unfolding db_of_gain of_bits round neg
returns-then-gain_q8-eq0 c = rw (eq-eqb _ _ c.if-gain_q8-eq0.true)

pub float_to_bits-bits : goal.float_to_bits-bits
float_to_bits-bits c = rw c.from-lin.ensures (some c.args.gain_q8 (omega arith))

pub overflow_sub-exp : goal.overflow_sub-exp
overflow_sub-exp c = let f = fields (bits_of c.args.gain_q8) in rw (c.from-lin.ensures, to_z-nat f.field) f.exp

pub float_from_bits-mantissa : goal.float_from_bits-mantissa
float_from_bits-mantissa c = (fields _).number

pub int_to_float-log2_val : goal.int_to_float-log2_val
int_to_float-log2_val c = let f = fields (bits_of c.args.gain_q8) in rw (c.from-lin.ensures, to_z-nat f.field, to_z-of_z w32 _ f.exp) f.small

pub returns : goal.returns
unfolding db_of_gain log2_of of_bits round neg
returns c =
    let f = fields (bits_of c.args.gain_q8) in
    rw (ne_eqb _ _ c.if-gain_q8-eq0.false, c.clamp_f32.ensures, c.from-lin.ensures, to_z-nat f.field, to_z-of_z w32 _ f.exp)
