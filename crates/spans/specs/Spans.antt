-- Inner: how many frames surely pass before a voice can fall inaudible (Steady.still-busy says that they do). Assumes nothing.
use Rattle.std.specs.Prelude.{ℕ, suc, ◌-◌, min, cond, List, [], ◌∷◌}
use Rattle.envelope.specs.declared.Adsr.{Adsr}
use Rattle.envelope.specs.declared.AdsrPhase.{AdsrPhase}
use Rattle.envelope.specs.declared.AdsrPhase.TheVariants as P
use Rattle.frame.specs.Lasting.{frames_left}
use Rattle.mixer.specs.Mixers.{voices_of}
use Rattle.mixer.specs.declared.Mixer.{Mixer}
use Rattle.tone.specs.Duration.{forever}
use Rattle.voice.specs.declared.Voice.{Voice}
use Rattle.voice.specs.declared.source.VoiceSource.{VoiceSource}
use Rattle.voice.specs.declared.source.VoiceSource.TheVariants as S

-- the request after the last sample is the one that ends a source; what never ends stands for more than any count
abbrev pub samples_last : ℕ → ℕ
samples_last left = min forever (suc left)

abbrev pub source_lasts : VoiceSource → ℕ
source_lasts S.Idle = 1
source_lasts (S.Tone v) = samples_last v.samples_left
source_lasts (S.PolyBlep v) = samples_last v.samples_left
source_lasts (S.Fm v) = forever

-- on an idle envelope a voice lasts as its source does; a release lasts until its count is its length; no other phase ends a voice
abbrev pub lasts_in : AdsrPhase → Adsr → VoiceSource → ℕ
lasts_in P.Idle a s = source_lasts s
lasts_in P.Release a s = a.phase_length_samples - a.samples_in_phase
lasts_in P.Attack a s = forever
lasts_in P.Decay a s = forever
lasts_in P.Sustain a s = forever

unfoldable pub voice_lasts : Voice → ℕ
voice_lasts v = lasts_in v.adsr.phase v.adsr v.source

unfoldable pub all_last : List Voice → ℕ
all_last [] = forever
all_last (v ∷ vs) = min (voice_lasts v) (all_last vs)

-- a fade's end stops voice 1
abbrev pub fade_lasts : Mixer → ℕ
fade_lasts m = cond m.crossfade_active (frames_left m) forever

unfoldable pub steady_frames : Mixer → ℕ
steady_frames m = min (fade_lasts m) (all_last (voices_of m))
