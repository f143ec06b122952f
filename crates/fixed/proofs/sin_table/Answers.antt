-- `fixed::sin_table` meets its contract. That the one product is the sine of both halves, and low, is a test over all its places.
-- 255 − 2x, its product with y, and the 256th part of that
use Rattle.std.proofs.Common.{◌≡◌, ℕ, ◌-◌, ◌*◌, ◌<◌, min, ℤ, pos, ◌-ℤ◌, ◌*ℤ◌, arith, w8, w16, SFits}
use lib.Signed.{quot_z}
use mir.ValLaws.{to_z-of_z}
use mir.Facts.{sfits_widen}
use Rattle.laws.proofs.Finite.{same_at, fits-at}
use Rattle.laws.proofs.Signed.{to_z-nat}
use Rattle.fixed.specs.Fixed.{sine}
use Rattle.fixed.proofs.sin_table.Goals.{After-fold-y}
use Rattle.fixed.proofs.sin_table.Goals as goal

abbrev factor : ℕ → ℤ
factor x = pos 255 -ℤ (pos 2 *ℤ pos x)

abbrev part : ℕ → ℕ → ℤ
part x y = quot_z (pos y *ℤ factor x) (pos 256)

abbrev folded : ℕ → ℕ
folded x = min (2 * x) (510 - 2 * x)

record Product (x y : ℕ) : Type 0 where
  place : SFits w16 (pos x)
  rise : SFits w16 (pos y)
  twice : SFits w16 (pos 2 *ℤ pos x)
  signed-factor : SFits w16 (factor x)
  prod : SFits w16 (pos y *ℤ factor x)
  quot : SFits w16 (part x y)
  byte : SFits w8 (part x y)
  is : part x y ≡ sine x

product : (x : ℕ) → x < 256 → Product x (folded x)
product x h =
    let low = fits-at w8 (λ n. part n (folded n)) 0 256 tt x (omega arith) h in
    record {
      place = record { sfits = omega arith };
      rise = record { sfits = omega arith };
      twice = record { sfits = omega arith };
      signed-factor = fits-at w16 factor 0 256 tt x (omega arith) h;
      prod = fits-at w16 (λ n. pos (folded n) *ℤ factor n) 0 256 tt x (omega arith) h;
      quot = sfits_widen tt low;
      byte = low;
      is = same_at (λ n. part n (folded n)) sine 0 256 tt x (omega arith) h;
    }

product_c : (c : After-fold-y) → Product c.args.index c.fold-y.result
product_c c = rw c.fold-y.ensures (product c.args.index (omega arith))

pub overflow_mul-result : goal.overflow_mul-result
overflow_mul-result c =
    let f = product_c (goal.at.overflow_mul-result c).After-fold-y in
    simp (c.from-up.ensures, to_z-of_z w16 _ f.place, to_z-nat f.rise, to_z-of_z w16 _ f.twice, to_z-of_z w16 _ f.signed-factor) f.prod

pub returns : goal.returns
returns c =
    let f = product_c (goal.at.returns c).After-fold-y in
    simp
    (c.from-up.ensures, to_z-of_z w16 _ f.place, to_z-nat f.rise, to_z-of_z w16 _ f.twice, to_z-of_z w16 _ f.signed-factor, to_z-of_z w16 _ f.prod, to_z-of_z w16 _ f.quot, to_z-of_z w8 _ f.byte)
    f.is
