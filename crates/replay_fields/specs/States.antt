-- A state's fields as a dump prints them: "Every field has 16 digits". Assumes nothing.
use Rattle.std.specs.Prelude.{ℕ, Bool, cond, List, ◌++◌}
use Rattle.std.specs.Float.{binary32}
use Rattle.std.specs.Float.Ieee.{to_bits}
use Rattle.envelope.specs.declared.Adsr.{Adsr}
use Rattle.envelope.specs.declared.AdsrPhase.{AdsrPhase}
use Rattle.envelope.specs.declared.AdsrPhase.TheVariants as A
use Rattle.fm.specs.declared.FmVoice.{FmVoice}
use Rattle.polyblep.specs.declared.PolyBlepVoice.{PolyBlepVoice}
use Rattle.polyblep.specs.declared.PolyBlepWaveform.{PolyBlepWaveform}
use Rattle.polyblep.specs.declared.PolyBlepWaveform.TheVariants as B
use Rattle.tone.specs.declared.ToneVoice.{ToneVoice}
use Rattle.tone.specs.declared.Waveform.{Waveform}
use Rattle.tone.specs.declared.Waveform.TheVariants as W
use Rattle.voice.specs.declared.Voice.{Voice}
use Rattle.voice.specs.declared.source.VoiceSource.{VoiceSource}
use Rattle.voice.specs.declared.source.VoiceSource.TheVariants as S
use Rattle.hex_digits.specs.Hex.{hex_of, four_of}

abbrev pub flag_number : Bool → ℕ
flag_number b = cond b 1 0

abbrev pub tone_number : Waveform → ℕ
tone_number W.Square = 0
tone_number W.Sine = 1
tone_number W.Triangle = 2

abbrev pub poly_blep_number : PolyBlepWaveform → ℕ
poly_blep_number B.Sine = 0
poly_blep_number B.Sawtooth = 1
poly_blep_number B.Square = 2
poly_blep_number B.Triangle = 3

-- "then the source as in a dump, 16 digits a field": its number, and its fields in their order
abbrev pub tone_fields : ToneVoice → List ℕ
tone_fields v =
    four_of 1 v.phase v.phase_inc (tone_number v.waveform)
    ++ hex_of 16 v.samples_left
    ++ hex_of 16 (flag_number v.active)

abbrev pub poly_blep_fields : PolyBlepVoice → List ℕ
poly_blep_fields v =
    let o = v.osc in
    four_of 2 (to_bits binary32 o.phase) (to_bits binary32 o.phase_inc) (poly_blep_number o.waveform)
    ++ four_of o.freq_hz o.sample_rate_hz v.samples_left (flag_number v.active)

abbrev pub fm_fields : FmVoice → List ℕ
fm_fields v =
    four_of 3 v.carrier_phase v.carrier_inc v.mod_phase
    ++ hex_of 16 v.mod_inc
    ++ hex_of 16 v.mod_depth_q8
    ++ hex_of 16 (flag_number v.active)

abbrev pub source_fields : VoiceSource → List ℕ
source_fields S.Idle = hex_of 16 0
source_fields (S.Tone v) = tone_fields v
source_fields (S.PolyBlep v) = poly_blep_fields v
source_fields (S.Fm v) = fm_fields v

-- "phase (0 attack, 1 decay, 2 sustain, 3 release, 4 idle)"
abbrev pub phase_number : AdsrPhase → ℕ
phase_number A.Attack = 0
phase_number A.Decay = 1
phase_number A.Sustain = 2
phase_number A.Release = 3
phase_number A.Idle = 4

-- "attack, decay, sustain, release, phase, level, samples in phase, phase length, rate", 16 digits each
abbrev pub adsr_text : Adsr → List ℕ
adsr_text a =
    four_of a.spec.attack_ms a.spec.decay_ms a.spec.sustain_q8 a.spec.release_ms
    ++ four_of (phase_number a.phase) a.level_q8 a.samples_in_phase a.phase_length_samples
    ++ hex_of 16 a.sample_rate_hz

-- "then the voice as in a dump": source, envelope, gain, priority, pan, rate
abbrev pub voice_fields : Voice → List ℕ
voice_fields v =
    source_fields v.source
    ++ adsr_text v.adsr
    ++ four_of v.gain_q8 v.priority v.pan_q8 v.sample_rate_hz
