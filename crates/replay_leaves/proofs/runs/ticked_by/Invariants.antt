-- `replay_leaves::runs::ticked_by` meets its contract: what the turns left make of the envelope is what all make.
use mathlib.Core.Path.{◌≡◌}
use Prim.Native.Nat.{◌-◌}
use Rattle.envelope.specs.Adsrs.{ticked}
use Rattle.replay_leaves.specs.Runs.{stepped}
use Rattle.replay_leaves.proofs.runs.ticked_by.Given as goal

abbrev pub invariant-loop : goal.invariant-loop
invariant-loop l = stepped ticked (l.count - l.counter) l.e ≡ stepped ticked l.count l.initial.e
