-- `counts::row_of` meets its contract: a row for each length. Assumes nothing.
use Rattle.std.proofs.Common.{arith, sym, ◌∙◌}
use Rattle.counts.proofs.Rows.{row_fits, row-start, row_step}
use Rattle.counts.proofs.row_of.Goals as goal

pub loop-init : goal.loop-init
loop-init c = sym (row-start _ _)

pub lengthen-requires : goal.lengthen-requires
lengthen-requires c = rw c.loop.invariant (row_fits _ _ c.loop.counter c.requires.1 (omega (arith, c.requires.0)))

pub loop-preserved : goal.loop-preserved
loop-preserved c = c.lengthen.ensures ∙ rw c.loop.invariant (sym (row_step _ _ _))
