-- `block::passes::mean` meets its contract. The quotient is no larger than the sum.
use Prim.Native.Nat.{◌<◌}
use native.Mathlib.Omega.{arith}
use borrow.Author.Tests.{lt-ltb, le-ltb}
use mir.Syntax.{w32}
use mir.Val.{SFits}
use mir.Facts.{sfits_widen}
use Rattle.laws.proofs.Signed.{signed}
use Rattle.block.specs.Cells.{mean_of}
use Rattle.block.proofs.Fits.{Means, means}
use Rattle.block.proofs.passes.mean.Goals.{Start}
use Rattle.block.proofs.passes.mean.Goals as goal

fit_c : (c : Start) → 0 < c.args.count → Means c.args.sum c.args.count
fit_c c h = means _ _ c.ranges.sum c.ranges.count h

pub overflow_cast-result : goal.overflow_cast-result
overflow_cast-result c = let f = fit_c (goal.at.overflow_cast-result c).Start (omega arith) in search signed

pub nonzero_div-result : goal.nonzero_div-result
nonzero_div-result c = let f = fit_c (goal.at.nonzero_div-result c).Start (omega arith) in search signed

pub overflow_cast-result-else-count-gt1 : goal.overflow_cast-result-else-count-gt1
overflow_cast-result-else-count-gt1 c = let f : SFits w32 c.args.sum = sfits_widen tt c.ranges.sum in search signed

pub returns-then-count-gt1 : goal.returns-then-count-gt1
unfolding mean_of
returns-then-count-gt1 c =
    let f = fit_c (goal.at.returns-then-count-gt1 c).Start (omega arith) in rw (lt-ltb 1 c.args.count c.if-count-gt1.true) (search signed)

pub returns-else-count-gt1 : goal.returns-else-count-gt1
unfolding mean_of
returns-else-count-gt1 c =
    let f : SFits w32 c.args.sum = sfits_widen tt c.ranges.sum in rw (le-ltb 1 c.args.count c.if-count-gt1.false) (search signed)
