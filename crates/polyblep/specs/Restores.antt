-- An oscillator and a voice from their fields, the floats by their bits, as an image has them (document 02, T-14: a field outside "its
-- bounds in 01" is refused, and "No other relation in a line counts"). Assumes nothing.
use Rattle.std.specs.Prelude.{ℕ, Bool, cond, ◌&&◌, from_bits, Option, Some, None}
use Rattle.std.specs.Float.{binary32}
use Rattle.polyblep.specs.Ranges.{is_phase, is_step}
use Rattle.polyblep.specs.Oscillators.{Valid, ValidVoice, oscillator, voice_of}
use Rattle.polyblep.specs.declared.PolyBlepWaveform.{PolyBlepWaveform}
use Rattle.polyblep.specs.declared.PolyBlepOscillator.{PolyBlepOscillator}
use Rattle.polyblep.specs.declared.PolyBlepVoice.{PolyBlepVoice}

-- refused unless the phase is "at least 0 and below 1" and the step within "0..0.499", which no NaN and no infinity is
unfoldable pub restored : ℕ → ℕ → PolyBlepWaveform → ℕ → ℕ → Option PolyBlepOscillator
restored phase step waveform hz rate =
    let x = from_bits binary32 phase in
    let d = from_bits binary32 step in
    cond (is_phase x && is_step d) (Some (oscillator x d waveform hz rate)) None

abbrev pub ValidRestored : Option PolyBlepOscillator → Type 0
ValidRestored (Some o) = Valid o
ValidRestored None = Unit {0}

-- a voice with that oscillator, so many samples left, sounding or not
abbrev pub in_voice : Option PolyBlepOscillator → ℕ → Bool → Option PolyBlepVoice
in_voice (Some o) left active = Some (voice_of o left active)
in_voice None left active = None

unfoldable pub restored_voice : ℕ → ℕ → PolyBlepWaveform → ℕ → ℕ → ℕ → Bool → Option PolyBlepVoice
restored_voice phase step waveform hz rate left active = in_voice (restored phase step waveform hz rate) left active

abbrev pub ValidRestoredVoice : Option PolyBlepVoice → Type 0
ValidRestoredVoice (Some v) = ValidVoice v
ValidRestoredVoice None = Unit {0}
