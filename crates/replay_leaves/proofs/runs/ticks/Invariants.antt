-- `replay_leaves::runs::ticks` meets its contract: what is left of the run, from each turn on, is the run.
use Prim.Native.Nat.{◌+◌, ◌*◌, ◌≤◌}
use Rattle.envelope.specs.Adsrs.{ticked}
use Rattle.replay_leaves.specs.Runs.{level_text}
use Rattle.replay_leaves.proofs.Going.{Going}
use Rattle.replay_leaves.proofs.runs.ticks.Given as goal

abbrev pub invariant-loop : goal.invariant-loop
invariant-loop l = Going ticked level_text l.initial.out l.at l.count l.initial.e l.out l.next l.counter l.e × (l.next ≤ l.at + 2 * l.counter)
