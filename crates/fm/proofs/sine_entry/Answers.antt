-- `fm::sine_entry` meets its contract: it is the definition. That the sine and its sum with 128 fit is a test over all its places.
use Rattle.std.proofs.Common.{◌≡◌, ℕ, ◌<◌, pos, ◌+ℤ◌, ◌∙◌, arith, w8, w16, SFits}
use mir.ValLaws.{to_z-of_z}
use Rattle.laws.proofs.Finite.{fits-at}
use Rattle.fixed.specs.Fixed.{sine}
use Rattle.fm.specs.Fm.{table_sine}
use Rattle.fm.proofs.sine_entry.Goals as goal

low : (x : ℕ) → x < 256 → SFits w16 (sine x)
low x h = fits-at w16 sine 0 256 tt x (omega arith) h

sum : (x : ℕ) → x < 256 → SFits w16 (sine x +ℤ pos 128)
sum x h = fits-at w16 (λ n. sine n +ℤ pos 128) 0 256 tt x (omega arith) h

pub returns : goal.returns
unfolding table_sine
returns c =
    let x = c.args.index in
    let h : x < 256 = omega arith in
    let is : c.from.result ≡ sine x = c.from.ensures ∙ to_z-of_z w8 _ (record { sfits = c.sin_table.type_inv }) ∙ c.sin_table.ensures in
    rw (to_z-of_z w8 c.as_i8.result (record { sfits = c.as_i8.type_inv }), c.as_i8.ensures, is, to_z-of_z w16 _ (low x h), to_z-of_z w16 _ (sum x h))
