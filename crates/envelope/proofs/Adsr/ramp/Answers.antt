-- The numbers of the loop are an envelope's after so many ticks, and what is stored are their levels. Assumes nothing.
use Rattle.std.proofs.Common.{arith, ◌≡◌, refl, length}
use Rattle.laws.proofs.Stores.{wrote_none, front-one}
use Rattle.laws.proofs.Parts.{wrote-all}
use Rattle.envelope.specs.Adsrs.{advanced_toward}
use Rattle.envelope.proofs.Adsr.ramp.Goals as goal

pub loop-cell-init : goal.loop-cell-init
loop-cell-init c = (omega arith, wrote_none _ _)

pub overflow_add-count : goal.overflow_add-count
overflow_add-count c = record { fits = omega (arith, c.requires, c.loop-cell.invariant.0, c.loop-cell-test.true) }

pub next_level-level-requires : goal.next_level-level-requires
next_level-level-requires c = (omega (arith, c.requires), omega (arith, c.requires, c.loop-cell.invariant.0, c.loop-cell-test.true))

pub loop-cell-preserved : goal.loop-cell-preserved
unfolding advanced_toward
loop-cell-preserved c = (omega (arith, c.loop-cell.invariant.0), rw c.next_level-level.ensures (front-one _ _ c.loop-cell.invariant.1))

pub returns-clause-value : goal.returns-clause-value
returns-clause-value c =
    let e : c.loop-cell.cell-index ≡ length c.args.out.now = omega (arith, c.loop-cell.auto.cell-index-end, c.loop-cell-test.false) in
    rw (← e) c.loop-cell.invariant.1.state

pub returns-clause-out_after : goal.returns-clause-out_after
returns-clause-out_after c =
    let e : c.loop-cell.cell-index ≡ length c.args.out.now = omega (arith, c.loop-cell.auto.cell-index-end, c.loop-cell-test.false) in
    wrote-all (length c.args.out.now) (rw e at c.loop-cell.invariant.1) refl
