-- `replay_leaves::voices::passed` meets its contract: what the turns left make of the voice is what all make.
use mathlib.Core.Path.{◌≡◌}
use Prim.Native.Nat.{◌-◌}
use Rattle.voice.specs.Voices.{Valid}
use Rattle.replay_leaves.specs.Runs.{stepped}
use Rattle.replay_leaves.specs.Voices.{passed_frame}
use Rattle.replay_leaves.proofs.voices.passed.Given as goal

abbrev pub invariant-loop : goal.invariant-loop
invariant-loop l = (stepped passed_frame (l.count - l.counter) l.voice ≡ stepped passed_frame l.count l.initial.voice) × Valid l.voice
