-- `replay_patterns::run` meets its contract: what is left to write of the samples is what there was.
use Prim.Native.Nat.{◌+◌, ◌*◌, ◌≤◌}
use Rattle.replay_cells.specs.Cells.{byte_text}
use Rattle.replay_cells.proofs.Turns.{Going}
use Rattle.evacuation.specs.Pattern.{samples_from}
use Rattle.replay_patterns.proofs.run.Given as goal

abbrev pub invariant-loop-i : goal.invariant-loop-i
invariant-loop-i w = Going byte_text (samples_from w.p w.first w.count) w.initial.out w.initial.next w.out w.next w.i × (w.next ≤ w.initial.next + 2 * w.i)
