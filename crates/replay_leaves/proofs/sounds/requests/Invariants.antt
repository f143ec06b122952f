-- `replay_leaves::sounds::requests` meets its contract: what is left of the run, from each turn on, is the run.
use Prim.Native.Nat.{◌+◌, ◌*◌, ◌≤◌}
use Rattle.replay_leaves.proofs.Going.{Going}
use Rattle.voice.specs.Sources.{ValidStep}
use Rattle.replay_leaves.specs.Sounds.{request, given_text}
use Rattle.replay_leaves.proofs.sounds.requests.Given as goal

abbrev pub invariant-loop : goal.invariant-loop
invariant-loop l = Going request given_text l.initial.out l.at l.count l.initial.last l.out l.next l.counter l.last × ValidStep l.last × (l.next ≤ l.at + 4 * l.counter)
