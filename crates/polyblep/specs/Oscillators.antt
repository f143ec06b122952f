-- The oscillator and the voice around it, call by call. Assumes nothing.
use Rattle.std.specs.Prelude.{◌≡◌, ℕ, zero, suc, max, Bool, true, false, cond, T, ℤ, pos, ◌==◌, Float, Option, Some, None}
use Rattle.std.specs.Float.{binary32}
use Rattle.std.specs.Float.Ieee.{le, of_int, to_signed}
use Rattle.laws.specs.F32.{◌⊕◌, ◌⊖◌, ◌⊗◌, ◌⊘◌, lit, held_to_f}
use Rattle.laws.specs.Made.{Made}
use Rattle.fixed.specs.declared.Step.{Step}
use Rattle.tone.specs.Duration.{duration_of, less_one}
use Rattle.polyblep.specs.Ranges.{is_phase, is_step}
use Rattle.polyblep.specs.Waves.{sample_at}
use Rattle.polyblep.specs.declared.PolyBlepWaveform.{PolyBlepWaveform}
use Rattle.polyblep.specs.declared.PolyBlepWaveform.TheVariants as W
use Rattle.polyblep.specs.declared.PolyBlepOscillator.{PolyBlepOscillator}
use Rattle.polyblep.specs.declared.PolyBlepVoice.{PolyBlepVoice}

-- "step = Hz ÷ max(rate, 1) held to 0..0.499, every operation rounded in the source's order"
unfoldable pub step_of : ℕ → ℕ → Float
step_of hz rate = held_to_f (lit 0 1) (lit 499 1000) (of_int binary32 (pos hz) ⊘ of_int binary32 (pos (max rate 1)))

-- What every oscillator that a call takes or gives has.
-- Tried by an `impl Model`: a Copy struct that holds one is not copied in a proof when used again, so the callers' proofs do not close.
pub record Valid (o : PolyBlepOscillator) : Type 0 where
  pub phase : T (is_phase o.phase)
  pub step : T (is_step o.phase_inc)

-- its fields in their order
abbrev pub oscillator : Float → Float → PolyBlepWaveform → ℕ → ℕ → PolyBlepOscillator
oscillator phase step waveform hz rate =
    record { phase = phase; phase_inc = step; waveform = waveform; freq_hz = hz; sample_rate_hz = rate }

unfoldable pub new_oscillator : ℕ → ℕ → PolyBlepWaveform → PolyBlepOscillator
new_oscillator hz rate waveform = oscillator (lit 0 1) (step_of hz rate) waveform hz (max rate 1)

-- polyblep.rs: what stands where none is chosen
abbrev pub default_waveform : PolyBlepWaveform
default_waveform = W.Sine

abbrev pub default_oscillator : PolyBlepOscillator
default_oscillator = new_oscillator 440 48000 default_waveform

unfoldable pub at_frequency : PolyBlepOscillator → ℕ → PolyBlepOscillator
at_frequency o hz = oscillator o.phase (step_of hz o.sample_rate_hz) o.waveform hz o.sample_rate_hz

unfoldable pub at_rate : PolyBlepOscillator → ℕ → PolyBlepOscillator
at_rate o rate = oscillator o.phase (step_of o.freq_hz rate) o.waveform o.freq_hz (max rate 1)

unfoldable pub with_waveform : PolyBlepOscillator → PolyBlepWaveform → PolyBlepOscillator
with_waveform o waveform = oscillator o.phase o.phase_inc waveform o.freq_hz o.sample_rate_hz

unfoldable pub at_start : PolyBlepOscillator → PolyBlepOscillator
at_start o = oscillator (lit 0 1) o.phase_inc o.waveform o.freq_hz o.sample_rate_hz

-- the sample after the phase x completes a turn
abbrev pub completes : Float → Float → Bool
completes x d = le (lit 1 1) (x ⊕ d)

-- the phase one sample later
unfoldable pub advance : Float → Float → Float
advance x d = let p = x ⊕ d in cond (completes x d) (p ⊖ lit 1 1) p

unfoldable pub advanced : PolyBlepOscillator → PolyBlepOscillator
advanced o = oscillator (advance o.phase o.phase_inc) o.phase_inc o.waveform o.freq_hz o.sample_rate_hz

-- n samples later
unfoldable pub later : ℕ → PolyBlepOscillator → PolyBlepOscillator
later zero o = o
later (suc n) o = advanced (later n o)

-- the sample at the phase
unfoldable pub sample_of : PolyBlepOscillator → Float
sample_of o = sample_at o.waveform o.phase o.phase_inc

pub record Stepped (o : PolyBlepOscillator) (r : Step PolyBlepOscillator Float) : Type 0 where
  pub voice : Made Valid (advanced o) r.voice
  pub given : r.given ≡ sample_of o

-- ---- the voice
pub record ValidVoice (v : PolyBlepVoice) : Type 0 where
  pub osc : Valid v.osc

abbrev pub voice_of : PolyBlepOscillator → ℕ → Bool → PolyBlepVoice
voice_of o left active = record { osc = o; samples_left = left; active = active }

-- a new voice gives no sample; its oscillator stands at 440 Hz with a step of 0
unfoldable pub silent_voice : PolyBlepVoice
silent_voice = voice_of (oscillator (lit 0 1) (lit 0 1) W.Sine 440 48000) 0 false

unfoldable pub started_voice : ℕ → ℕ → PolyBlepWaveform → ℕ → PolyBlepVoice
started_voice hz ms waveform rate = voice_of (new_oscillator hz rate waveform) (duration_of ms rate) true

unfoldable pub stopped_voice : PolyBlepVoice → PolyBlepVoice
stopped_voice v = voice_of v.osc 0 false

unfoldable pub carrier_of : PolyBlepVoice → ℕ
carrier_of v = cond v.active v.osc.freq_hz 0

-- the voice after a request: unchanged while inactive; inactive at its end; else one sample on
unfoldable pub stepped_voice : PolyBlepVoice → PolyBlepVoice
stepped_voice v =
    cond v.active
    (cond (v.samples_left == 0)
    (voice_of v.osc v.samples_left false)
    (voice_of (advanced v.osc) (less_one v.samples_left) true))
    v

-- the float sample that a request gives
unfoldable pub float_given : PolyBlepVoice → Option Float
float_given v = cond v.active (cond (v.samples_left == 0) None (Some (sample_of v.osc))) None

-- "Output is truncated(sample × 127), held to −128..127 by the cast; a NaN would give 0."
unfoldable pub truncated : Float → ℤ
truncated f = to_signed 7 (f ⊗ lit 127 1)

abbrev pub cut_given : Option Float → Option ℤ
cut_given (Some f) = Some (truncated f)
cut_given None = None

pub record FloatStepped (v : PolyBlepVoice) (r : Step PolyBlepVoice (Option Float)) : Type 0 where
  pub voice : Made ValidVoice (stepped_voice v) r.voice
  pub given : r.given ≡ float_given v

pub record VoiceStepped (v : PolyBlepVoice) (r : Step PolyBlepVoice (Option ℤ)) : Type 0 where
  pub voice : Made ValidVoice (stepped_voice v) r.voice
  pub given : r.given ≡ cut_given (float_given v)
