-- `replay_leaves::sounds::skipped` meets its contract: what the turns left make of the source is what all make.
use mathlib.Core.Path.{◌≡◌}
use Prim.Native.Nat.{◌-◌}
use Rattle.voice.specs.Sources.{ValidSource}
use Rattle.replay_leaves.specs.Runs.{stepped}
use Rattle.replay_leaves.specs.Sounds.{passed_over}
use Rattle.replay_leaves.proofs.sounds.skipped.Given as goal

abbrev pub invariant-loop : goal.invariant-loop
invariant-loop l = (stepped passed_over (l.count - l.counter) l.source ≡ stepped passed_over l.count l.initial.source) × ValidSource l.source
