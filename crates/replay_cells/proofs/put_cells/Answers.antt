-- `replay_cells::put_cells` meets its contract: what is left to write is what there was.
use Rattle.hex_digits.proofs.Texts.{left-start}
use Rattle.replay_cells.specs.Cells.{cells_text}
use Rattle.replay_cells.proofs.Turns.{going-turn, going_end}
use Rattle.replay_cells.proofs.put_cells.Goals as goal

pub loop-c-init : goal.loop-c-init
loop-c-init g c = left-start c.put-next.new.out c.put-next.result (cells_text g.C.Cell.text c.args.cells.now)

pub loop-c-preserved : goal.loop-c-preserved
loop-c-preserved g c =
    let l = c.loop-c in
    going-turn g.C.Cell.text c.args.cells.now l.c-index c.c-item.result c.loop-c-test.true l.invariant (rw (← c.c-item.is) c.put-next-in-loop-c.ensures)

pub returns : goal.returns
returns g c = going_end g.C.Cell.text c.args.cells.now c.loop-c.c-index c.loop-c-test.false c.put-next.ensures.0 c.loop-c.invariant c.end_line.ensures.0
