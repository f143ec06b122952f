-- "a choice of idle, tone, PolyBLEP with its float phase, or FM". Assumes nothing.
use Rattle.std.specs.Prelude.{ℕ, Bool, false, cond, eqb, ℤ, Option, Some, None}
use Rattle.envelope.specs.Adsrs.{click_spec}
use Rattle.error.specs.Told.{Told, value, refused}
use Rattle.fixed.specs.declared.Step.{Step}
use Rattle.fm.specs.Fm.{started_fm, stepped_fm}
use Rattle.polyblep.specs.declared.PolyBlepWaveform.{PolyBlepWaveform}
use Rattle.polyblep.specs.Oscillators as B
use Rattle.tier.specs.declared.EffectKind.{EffectKind}
use Rattle.tier.specs.declared.EffectKind.TheVariants as K
use Rattle.tone.specs.declared.Waveform.{Waveform}
use Rattle.tone.specs.declared.Waveform.TheVariants as W
use Rattle.tone.specs.Tones as T
use Rattle.voice.specs.declared.source.VoiceSource.{VoiceSource}
use Rattle.voice.specs.declared.source.VoiceSource.TheVariants as S

-- PolyBLEP's phase and step lie in their ranges.
-- Tried by an `impl Model`: a Copy struct that holds one is not copied in a proof when used again, so the callers' proofs do not close.
abbrev pub ValidSource : VoiceSource → Type 0
ValidSource S.Idle = Unit {0}
ValidSource (S.Tone v) = Unit {0}
ValidSource (S.PolyBlep v) = B.ValidVoice v
ValidSource (S.Fm v) = Unit {0}

abbrev pub ValidStep : {T : Type 0} → Step VoiceSource T → Type 0
ValidStep s = ValidSource s.voice

unfoldable pub active_source : VoiceSource → Bool
active_source S.Idle = false
active_source (S.Tone v) = v.active
active_source (S.PolyBlep v) = v.active
active_source (S.Fm v) = v.active

-- 0 Hz is no carrier
unfoldable pub carrier_of : ℕ → Option ℕ
carrier_of hz = cond (eqb hz 0) None (Some hz)

unfoldable pub carrier_given : VoiceSource → ℕ → Option ℕ
carrier_given S.Idle rate = None
carrier_given (S.Tone v) rate = carrier_of (T.carrier_of v rate)
carrier_given (S.PolyBlep v) rate = carrier_of (B.carrier_of v)
carrier_given (S.Fm v) rate = None

-- a request for a sample
unfoldable pub stepped_source : VoiceSource → Step VoiceSource (Option ℤ)
stepped_source S.Idle = record { voice = S.Idle; given = None }
stepped_source (S.Tone v) = let s = T.stepped_tone v in record { voice = S.Tone s.voice; given = s.given }
stepped_source (S.PolyBlep v) = record { voice = S.PolyBlep (B.stepped_voice v); given = B.cut_given (B.float_given v) }
stepped_source (S.Fm v) = let s = stepped_fm v in record { voice = S.Fm s.voice; given = s.given }

abbrev pub tone_source : ℕ → ℕ → Waveform → ℕ → VoiceSource
tone_source hz ms waveform rate =
    S.Tone (T.started_tone (record { freq_hz = hz; duration_ms = ms; waveform = waveform; adsr = click_spec }) rate)

abbrev pub poly_blep_source : ℕ → ℕ → PolyBlepWaveform → ℕ → VoiceSource
poly_blep_source hz ms waveform rate = S.PolyBlep (B.started_voice hz ms waveform rate)

-- "depth 72"
abbrev pub fm_source : ℕ → ℕ → ℕ → VoiceSource
fm_source carrier ratio rate = S.Fm (started_fm carrier ratio 72 rate)

-- "Kind 0 is a sine tone of param0 Hz for param1 ms. Kind 2 is FM, carrier param0, ratio param1"; "kind 1, 3, 4 or 5 | 10
-- NotCarried"
unfoldable pub started_entry : EffectKind → ℕ → ℕ → ℕ → Told VoiceSource
started_entry K.Tone param0 param1 rate = value (tone_source param0 param1 W.Sine rate)
started_entry K.Fm param0 param1 rate = value (fm_source param0 param1 rate)
started_entry K.Wavetable param0 param1 rate = refused 10
started_entry K.Pcm8 param0 param1 rate = refused 10
started_entry K.Adpcm param0 param1 rate = refused 10
started_entry K.SigmaDeltaBits param0 param1 rate = refused 10
