-- What is left of the run, from each turn on, is the run. Assumes nothing.
use Prim.Native.Nat.{◌*◌, ◌≤◌}
use Rattle.framelist_answers.specs.Lines.{next, duty_line}
use Rattle.framelist_answers.proofs.Frames.{Going}
use Rattle.framelist_answers.proofs.frames_answer.Given as goal

abbrev pub invariant-loop : goal.invariant-loop
invariant-loop l = Going next duty_line l.initial.out l.count l.initial.s l.out l.at l.counter l.s × (l.at ≤ 5 * l.counter)
