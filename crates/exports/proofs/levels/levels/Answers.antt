-- `exports::levels::levels` meets its contract: a tick after each cell, whose levels are stored.
use Rattle.std.proofs.Common.{arith, ◌≡◌, ◌∙◌, length}
use Rattle.laws.proofs.Stores.{wrote_none, front-one}
use Rattle.envelope.specs.Adsrs.{ticked}
use Rattle.exports.proofs.Cells.{whole-run}
use Rattle.exports.proofs.levels.levels.Invariants.{level}
use Rattle.exports.proofs.levels.levels.Goals as goal

pub loop-cell-init : goal.loop-cell-init
loop-cell-init c = wrote_none ticked level

pub loop-cell-preserved : goal.loop-cell-preserved
loop-cell-preserved c = rw (c.level.ensures, c.tick-e.ensures) (front-one ticked level c.loop-cell.invariant)

pub returns : goal.returns
returns c =
    let w = c.loop-cell.invariant in
    let e : c.loop-cell.cell-index ≡ length c.args.out.now = omega arith in
    record { last = w.state ∙ rw e; out_after = w.stored ∙ rw e (whole-run ticked level c.args.out.now c.args.first) }
