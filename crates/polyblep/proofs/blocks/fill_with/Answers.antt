-- `polyblep::blocks::fill_with` meets its contract: what is left to write is what there was, and the phase stays in its range.
use Rattle.std.proofs.Common.{arith, take, length}
use Rattle.tone.proofs.Loops.{left-start, left-turn, left_end}
use Rattle.polyblep.proofs.Keep.{keeps}
use Rattle.polyblep.proofs.blocks.fill_with.Goals as goal

pub loop-cell-init : goal.loop-cell-init
loop-cell-init g c = let a = c.args in (left-start (length a.out.now) a.phase a.out.now, c.requires.phase)

pub loop-cell-preserved : goal.loop-cell-preserved
loop-cell-preserved g c =
    let l = c.loop-cell in (
      left-turn l.invariant.0 c.loop-cell-test.true c.advance_phase-p.ensures (rw c.at.ensures at c.cut.ensures) (record { sfits = c.cut.type_inv }),
      rw c.advance_phase-p.ensures (keeps l.p c.args.inc l.invariant.1 c.requires.step),
    )

pub returns : goal.returns
returns g c = left_end c.loop-cell.invariant.0 c.loop-cell-test.false
