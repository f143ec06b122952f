-- `exports_replay::sound` meets its contract: what is left of the run, from each line on, is the run. The measure is what is left of the script.
use mathlib.Core.Path.{sym, ◌∙◌}
use native.Mathlib.Omega.{arith}
use borrow.Author.Tests.{true-eqb}
use lib.ListN.{length}
use lib.Seq.{length-take-le}
use Rattle.exports_replay.proofs.Going.{going_start, going-turn, going-bad, going_end, sound-of, sound-fits}
use Rattle.exports_replay.proofs.sound.Invariants.{cells}
use Rattle.exports_replay.proofs.sound.Goals as goal

pub loop-good-init : goal.loop-good-init
loop-good-init c = (going_start cells _ _ c.new-s.ensures, omega arith)

pub loop-good-preserved : goal.loop-good-preserved
loop-good-preserved c =
    let l = c.loop-good in
    let a = c.answer-a.ensures in (
      going-turn cells (omega (arith, c.well_formed.1.0.0)) c.first_line-cut.ensures.lines a.run a.more (c.poured.ensures ∙ rw (sound-of c.sound-n.ensures)) (c.saturating_add-len.ensures ∙ rw c.sound-n.ensures.count)
          (rw c.loop-good-test.true at l.invariant.0),
      omega (arith, c.saturating_add-len.ensures),
    )

pub returns-else-not-is_empty : goal.returns-else-not-is_empty
returns-else-not-is_empty c =
    let l = c.loop-good in
    let e = c.loop-good-test.true in
    rw e (going_end cells l.invariant.1 (true-eqb (length l.left.now) 0 c.if-not-is_empty.ensures) (rw e at l.invariant.0))

pub returns-after-loop-good : goal.returns-after-loop-good
returns-after-loop-good c =
    let l = c.loop-good in
    let e = c.loop-good-test.false in
    rw e (going-bad cells l.invariant.1 (rw e at l.invariant.0))

pub slice_bounds-cells-end : goal.slice_bounds-cells-end
slice_bounds-cells-end c = sound-fits c.sound-n.ensures

pub slice_bounds-poured-end : goal.slice_bounds-poured-end
slice_bounds-poured-end c = sym (length-take-le _ _ (sound-fits c.sound-n.ensures))
