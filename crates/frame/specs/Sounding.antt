-- What a voice gives in a frame of the present rules, and what it would give by itself (document 02, T-09). Assumes nothing.
use Rattle.std.specs.Prelude.{ℕ, Bool, true, Option, ℤ}
use Rattle.laws.specs.Runs.{after}
use Rattle.marks.specs.Marks.{rule_at, beside}
use Rattle.marks.specs.declared.Present.{Present}
use Rattle.voice.specs.Rests as R
use Rattle.voice.specs.Voices.{ticked_voice, sample_by, pair_by}
use Rattle.voice.specs.declared.Voice.{Voice}
use Rattle.frame.specs.Fades.{advanced_by, marks_advanced, voice_at}
use Rattle.frame.specs.Frames.{enveloped}

-- the fade advanced, as every frame begins
abbrev pub advanced_state : Present → Present
advanced_state p = beside (advanced_by p.marks.sounds_on p.mixer) (marks_advanced p.mixer p.marks)

-- the sample that the voice at i gives in the next frame, as the mix of `Frames` takes it
abbrev pub gives_at : ℕ → Present → Option ℤ
gives_at i p = let q = advanced_state p in sample_by (rule_at q.marks i) (voice_at (enveloped q.mixer) i)

-- and on both sides, "after pan"
abbrev pub gives_pair : ℕ → Present → Option (ℤ × ℤ)
gives_pair i p = let q = advanced_state p in pair_by (rule_at q.marks i) (voice_at (enveloped q.mixer) i)

-- a voice by itself after n frames, each of which took its sample
abbrev pub run_alone : ℕ → Voice → Voice
run_alone n v = after (R.framed true) n v

-- what it gives in the next one
abbrev pub alone_gives : Bool → ℕ → Voice → Option ℤ
alone_gives whole n v = sample_by whole (ticked_voice (run_alone n v))

abbrev pub alone_pair : Bool → ℕ → Voice → Option (ℤ × ℤ)
alone_pair whole n v = pair_by whole (ticked_voice (run_alone n v))
