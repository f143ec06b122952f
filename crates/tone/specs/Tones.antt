-- The tone: its waveforms at an index, and what each call makes of the oscillator. Assumes nothing.
use Rattle.std.specs.Prelude.{ℕ, ◌+◌, ◌-◌, ◌*◌, ◌/◌, ◌%◌, ◌^◌, true, false, cond, ℤ, pos, ◌-ℤ◌, neg_ℤ, ◌==◌, nat_lt, Option, Some, None}
use Rattle.fixed.specs.Fixed.{increment, index_of, sine}
use Rattle.fixed.specs.declared.Step.{Step}
use Rattle.tone.specs.Duration.{duration_of, less_one}
use Rattle.tone.specs.declared.ToneParams.{ToneParams}
use Rattle.tone.specs.declared.ToneVoice.{ToneVoice}
use Rattle.tone.specs.declared.Waveform.{Waveform}
use Rattle.tone.specs.declared.Waveform.TheVariants as W

-- "Square is 127 below index 128, else −127."
abbrev pub square : ℕ → ℤ
square x = cond (nat_lt x 128) (pos 127) (neg_ℤ (pos 127))

-- "2x − 127"
abbrev pub ramp : ℕ → ℤ
ramp x = pos (2 * x) -ℤ pos 127

-- "Triangle at index x is 2x − 127 below 128, else 127 − 2(x − 128)": the ramp, then its negative
abbrev pub triangle : ℕ → ℤ
triangle x = cond (nat_lt x 128) (ramp x) (pos 127 -ℤ pos (2 * (x - 128)))

abbrev pub wave : Waveform → ℕ → ℤ
wave W.Square x = square x
wave W.Sine x = sine x
wave W.Triangle x = triangle x

-- a new oscillator gives no sample
abbrev pub silent_tone : ToneVoice
silent_tone = record { phase = 0; phase_inc = 0; waveform = W.Sine; samples_left = 0; active = false }

-- a tone of so many Hz for so many ms
unfoldable pub started_tone : ToneParams → ℕ → ToneVoice
started_tone p rate =
    record {
      phase = 0;
      phase_inc = increment p.freq_hz rate;
      waveform = p.waveform;
      samples_left = duration_of p.duration_ms rate;
      active = true;
    }

unfoldable pub stopped_tone : ToneVoice → ToneVoice
stopped_tone v = record { phase = v.phase; phase_inc = v.phase_inc; waveform = v.waveform; samples_left = 0; active = false }

-- the Hz that the step stands for, while it sounds
unfoldable pub carrier_of : ToneVoice → ℕ → ℕ
carrier_of v rate = cond v.active (v.phase_inc * rate / 2 ^ 32) 0

-- the request after the last "gives none and clears the active flag"
abbrev pub ended_tone : ToneVoice → ToneVoice
ended_tone v = record { phase = v.phase; phase_inc = v.phase_inc; waveform = v.waveform; samples_left = v.samples_left; active = false }

-- "Phases are 32-bit and wrap"
abbrev pub advanced_tone : ToneVoice → ToneVoice
advanced_tone v =
    record {
      phase = (v.phase + v.phase_inc) % 2 ^ 32;
      phase_inc = v.phase_inc;
      waveform = v.waveform;
      samples_left = less_one v.samples_left;
      active = v.active;
    }

-- a request: none while inactive; none at the end; else the wave at the phase's index
unfoldable pub stepped_tone : ToneVoice → Step ToneVoice (Option ℤ)
stepped_tone v =
    cond v.active
    (cond (v.samples_left == 0)
    (record { voice = ended_tone v; given = None })
    (record { voice = advanced_tone v; given = Some (wave v.waveform (index_of v.phase)) }))
    (record { voice = v; given = None })
