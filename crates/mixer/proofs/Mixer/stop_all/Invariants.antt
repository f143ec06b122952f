-- The voices one by one, after the rest. Assumes nothing.
use Rattle.std.proofs.Common.{◌≡◌}
use Rattle.laws.specs.Lists.{map_first}
use Rattle.voice.specs.Voices.{stopped_voice}
use Rattle.mixer.proofs.Mixer.stop_all.Given as goal

abbrev pub invariant-loop-voice : goal.invariant-loop-voice
invariant-loop-voice l = l.voice-items ≡ map_first stopped_voice l.voice-index l.initial.voice-items
