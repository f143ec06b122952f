-- `replay_cells::put_cells` meets its contract: what is left to write is what there was.
use Rattle.replay_cells.proofs.Turns.{Going}
use Rattle.replay_cells.proofs.put_cells.Given as goal

abbrev pub invariant-loop-c : goal.invariant-loop-c
invariant-loop-c g l = Going g.C.Cell.text l.cells l.initial.out l.initial.next l.out l.next l.c-index
