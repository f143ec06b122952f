-- `replay_leaves::runs::map_all` meets its contract: what is left of the run, from each turn on, is the run.
use Prim.Native.Nat.{◌+◌, ◌*◌, ◌≤◌}
use Rattle.output.specs.Duty.{ValidMapped}
use Rattle.replay_leaves.specs.Runs.{map_step, duty_text}
use Rattle.replay_leaves.proofs.Going.{Going}
use Rattle.replay_leaves.proofs.runs.map_all.Given as goal

abbrev pub invariant-loop-i : goal.invariant-loop-i
invariant-loop-i w = Going (map_step w.l w.period) duty_text w.initial.out 3 w.count (8, w.initial.last) w.out w.next w.i (8 + w.i, w.last) × ValidMapped w.last × (w.next ≤ 3 + 4 * w.i)
