-- Those that are still to be left, from each turn on, give what all give.
use mathlib.Core.Path.{ap, ◌∙◌}
use lib.ListN.{length}
use lib.Seq.{length-sets}
use Rattle.exports.proofs.Leaving.{leaving-start, leaving-turn, leaving-end}
use Rattle.exports.proofs.waits.leave_each.Goals as goal

pub loop-i-preserved : goal.loop-i-preserved
loop-i-preserved c =
    let l = c.loop-i in
    rw c.tell.ensures
    (leaving-turn _ _ _ _ l.i l.s l.numbers l.invariant _ _ c.leave-outcome.result _ _ c.loop-i-test.true c.big16_at-label.ensures c.request_at-request.ensures
    c.leave-outcome.ensures c.number_of.ensures)

pub shape_of-numbers : goal.shape_of-numbers
shape_of-numbers c =
    let l = c.loop-i in
    ap length (leaving-end _ _ _ _ l.i l.s l.numbers l.invariant c.loop-i-test.false).1 ∙ simp length-sets

pub returns : goal.returns
returns c =
    let l = c.loop-i in
    let e = leaving-end _ _ _ _ l.i l.s l.numbers l.invariant c.loop-i-test.false in
    record { box = e.0; numbers = e.1 }

pub loop-i-init : goal.loop-i-init
loop-i-init c = leaving-start _ _ _ _
