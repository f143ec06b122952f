-- `block::passes::write_means` meets its contract: cell by cell.
use Prim.Native.Nat.{◌-◌}
use native.Mathlib.Omega.{arith}
use mathlib.Core.Path.{◌≡◌, refl}
use lib.IntN.{pos}
use lib.ListN.{get_or}
use mir.Syntax.{w8, w16, w32}
use mir.Val.{SFits, to_z, of_z}
use mir.ValLaws.{to_z-of_z}
use Rattle.block.specs.Cells.{mean_at}
use Rattle.block.proofs.Cells.{written_as, written_part, written_next}
use Rattle.block.proofs.passes.write_means.Lts as lts
use Rattle.block.proofs.passes.write_means.Reads as reads
use Rattle.block.proofs.passes.write_means.Tie as tie
use Rattle.block.proofs.passes.write_means.Goals as goal

abbrev At-After-leveled : Type 0
At-After-leveled = lts.After-leveled tie.the-claims reads.Pre reads.Post goal.the-invariant-loop-k goal.the-decreases-loop-k

-- the sample that a turn stores
value : (c : At-After-leveled)
    → let a = c.args in
    to_z w8 (of_z w8 c.leveled.result) ≡ mean_at a.gain a.sums.now a.counts.now 0 c.loop-k.k
value c =
    let a = c.args in
    let x = get_or a.sums.now c.loop-k.k (pos 0) in
    let arg : SFits w16 x = record { sfits = c.mean-arg-1.given } in
    let e : c.loop-k.k - 0 ≡ c.loop-k.k = omega arith in
    rw (
      to_z-of_z w8 c.leveled.result (record { sfits = c.leveled.type_inv }),
      c.leveled.ensures,
      to_z-of_z w32 c.mean.result (record { sfits = c.mean.type_inv }),
      c.mean.ensures,
      to_z-of_z w16 x arg,
      e,
    )

pub loop-k-preserved : goal.loop-k-preserved
loop-k-preserved c =
    (omega arith, written_next _ _ _ c.loop-k.invariant.1 (omega arith) refl (omega arith) (omega arith) (value c.before))

pub returns : goal.returns
returns c =
    let a = c.args in
    let e : c.loop-k.k ≡ a.len = omega arith in
    written_as (λ j p m. let z : j - a.at - 0 ≡ j - a.at = omega arith in rw z)
    (written_part a.at _ (omega arith) (omega arith) (rw e at c.loop-k.invariant.1))
