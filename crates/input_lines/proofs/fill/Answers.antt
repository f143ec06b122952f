-- `input_lines::fill` meets its contract: what the rest of the chunk makes of the line is what all of it makes.
use native.Mathlib.Omega.{arith}
use mathlib.Core.Path.{◌≡◌, sym, ◌∙◌}
use lib.ListN.{length-set}
use Rattle.input_lines.proofs.Laws.{at-end, at-newline, no_room, one_more, fills}
use Rattle.input_lines.proofs.fill.Goals.{then-b-eq10-via-then-b-eq10, then-b-eq10-via-else-b-eq10+then-n-line}
use Rattle.input_lines.proofs.fill.Goals as goal

pub returns-then-b-eq10 : goal.returns-then-b-eq10
returns-then-b-eq10 c =
    let l = c.loop-i in
    elim c.then-b-eq10.branch [
      | then-b-eq10-via-then-b-eq10 w ↦ fills (sym l.invariant.rest ∙ at-newline l.line l.n _ l.i c.loop-i-test.true w.if-b-eq10.true)
      | then-b-eq10-via-else-b-eq10+then-n-line w ↦ fills (sym l.invariant.rest ∙ no_room l.line l.n _ l.i c.loop-i-test.true w.if-n-line.true)
    ]

pub loop-i-preserved : goal.loop-i-preserved
loop-i-preserved c =
    let l = c.loop-i in
    record {
      room = rw length-set l.invariant.room;
      within = omega arith;
      rest = one_more l.line l.n _ l.i c.loop-i-test.true c.if-b-eq10.false c.if-n-line.false ∙ l.invariant.rest;
    }

pub returns : goal.returns
returns c =
    let l = c.loop-i in
    let e : c.max.result ≡ l.i = omega (arith, c.max.ensures) in
    rw e (fills (sym l.invariant.rest ∙ at-end l.line l.n _ l.i c.loop-i-test.false))
