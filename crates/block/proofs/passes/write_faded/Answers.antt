-- `block::passes::write_faded` meets its contract: cell by cell.
use native.Mathlib.Omega.{arith}
use mathlib.Core.Path.{◌≡◌, refl}
use lib.IntN.{ℤ, pos}
use lib.Dec.{ltb}
use mathlib.Core.Bool.{Bool, true, false}
use Rattle.std.specs.Bool.{then_some}
use lib.ListN.{get_or}
use mir.Syntax.{w8, w32}
use mir.Val.{SFits, to_z, of_z}
use mir.ValLaws.{to_z-of_z}
use native.Mathlib.Numerals.{add-one}
use Rattle.block.specs.Cells.{answer_of, faded_at}
use Rattle.block.proofs.Cells.{written_next}
use Rattle.block.proofs.Fits.{Mixes, mixes}
use Rattle.block.proofs.passes.write_faded.Goals.{After-leveled, In-loop-k}
use Rattle.block.proofs.passes.write_faded.Goals as goal

mix_c : (c : In-loop-k) → let a = c.args in Mixes a.t a.step c.loop-k.k c.loop-k.mix
mix_c c =
    let a = c.args in
    mixes a.t a.step a.len c.loop-k.k c.loop-k.mix c.requires.2 (omega arith) c.loop-k.invariant.1

some_answer : (t : Bool) (x : ℤ) → then_some t x ≡ answer_of t x
some_answer true x = refl
some_answer false x = refl

-- the sample that a turn stores
value : (c : After-leveled)
    → let a = c.args in
    Mixes a.t a.step c.loop-k.k c.loop-k.mix → to_z w8 (of_z w8 c.leveled.result) ≡ faded_at a.gain a.t a.step a.first.now a.n a.second.now a.n2 c.loop-k.k
value c m =
    let a = c.args in
    let x = get_or a.first.now c.loop-k.k (pos 0) in
    let y = get_or a.second.now c.loop-k.k (pos 0) in
    let fx : SFits w8 x = record { sfits = c.then_some-arg-1.given } in
    let fy : SFits w8 y = record { sfits = c.then_some-arg-in-loop-k-1.given } in
    rw (
      to_z-of_z w8 c.leveled.result (record { sfits = c.leveled.type_inv }),
      c.leveled.ensures,
      to_z-of_z w32 c.crossed.result (record { sfits = c.crossed.type_inv }),
      c.crossed.ensures,
      c.then_some-a.ensures,
      c.then_some-b.ensures,
      to_z-of_z w8 x fx,
      to_z-of_z w8 y fy,
      some_answer (ltb c.loop-k.k a.n) x,
      some_answer (ltb c.loop-k.k a.n2) y,
      m.value,
    )

pub loop-k-preserved : goal.loop-k-preserved
loop-k-preserved c =
    let m = mix_c (goal.at.loop-k-preserved c).In-loop-k in
    (omega arith, rw add-one m.value, written_next _ _ _ c.loop-k.invariant.2 (omega arith) refl (omega arith) (omega arith) (value c m))
