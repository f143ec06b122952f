-- `tone::blocks::fill_with` meets its contract: what is left to write is what there was.
use Rattle.std.proofs.Common.{refl, length}
use Rattle.tone.proofs.Loops.{left-start, left-turn, left_end}
use Rattle.tone.proofs.blocks.fill_with.Goals as goal

pub loop-cell-init : goal.loop-cell-init
loop-cell-init g c = let a = c.args in left-start (length a.out.now) a.phase a.out.now

pub loop-cell-preserved : goal.loop-cell-preserved
loop-cell-preserved g c =
    left-turn c.loop-cell.invariant c.loop-cell-test.true refl (rw c.phase_index.ensures at c.at.ensures) (record { sfits = c.at.type_inv })

pub returns : goal.returns
returns g c = left_end c.loop-cell.invariant c.loop-cell-test.false
