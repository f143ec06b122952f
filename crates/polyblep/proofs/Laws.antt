-- Laws of the oscillator and the voice. Assumes nothing.
use Rattle.std.proofs.Common.{◌≡◌, ℕ, zero, suc, ◌<◌, ◌≤◌, Bool, true, false, cond, T, eqb}
use lib.Ieee.{lt, le, eq, round}
use lib.Ieee.Fits.{and_l, and_r}
use Rattle.laws.specs.F32.{lit}
use Rattle.tone.specs.Duration.{less_one}
use Rattle.polyblep.specs.Ranges.{is_phase, is_step}
use Rattle.polyblep.specs.Oscillators.{Valid, ValidVoice, step_of, new_oscillator, at_frequency, at_rate, with_waveform, at_start, advanced, later, voice_of, silent_voice, started_voice, stopped_voice, stepped_voice}
use Rattle.polyblep.specs.declared.PolyBlepWaveform.{PolyBlepWaveform}
use Rattle.polyblep.specs.declared.PolyBlepOscillator.{PolyBlepOscillator}
use Rattle.polyblep.specs.declared.PolyBlepVoice.{PolyBlepVoice}
use Rattle.polyblep.proofs.Keep.{keeps}
use Rattle.polyblep.proofs.Step.{step_range, step-zero, step-large}

-- ---- the step
-- "Hz above 16,777,216 need not be exact in binary32; its step is 0.499 at every allowed rate."
pub large-step : (hz rate : ℕ) → 16777216 < hz → hz < 4294967296 → rate ≤ 65537 → step_of hz rate ≡ lit 499 1000
large-step = step-large

pub still-step : (rate : ℕ) → rate < 4294967296 → step_of 0 rate ≡ lit 0 1
still-step = step-zero

-- ---- an oscillator stays valid
zero-phase : T (is_phase (lit 0 1))
unfolding is_phase round le lt eq
zero-phase = tt

zero-step : T (is_step (lit 0 1))
unfolding is_step round le lt eq
zero-step = tt

pub valid-new : (hz rate : ℕ) (w : PolyBlepWaveform) → hz < 4294967296 → rate < 4294967296 → Valid (new_oscillator hz rate w)
unfolding new_oscillator
valid-new hz rate w h k = record { phase = zero-phase; step = step_range hz rate h k }

pub valid-frequency : (o : PolyBlepOscillator) (hz : ℕ) → Valid o → hz < 4294967296 → o.sample_rate_hz < 4294967296 → Valid (at_frequency o hz)
unfolding at_frequency
valid-frequency o hz v h k = record { phase = v.phase; step = step_range hz o.sample_rate_hz h k }

pub valid-rate : (o : PolyBlepOscillator) (rate : ℕ) → Valid o → o.freq_hz < 4294967296 → rate < 4294967296 → Valid (at_rate o rate)
unfolding at_rate
valid-rate o rate v h k = record { phase = v.phase; step = step_range o.freq_hz rate h k }

pub valid-waveform : (o : PolyBlepOscillator) (w : PolyBlepWaveform) → Valid o → Valid (with_waveform o w)
unfolding with_waveform
valid-waveform o w v = record { phase = v.phase; step = v.step }

pub valid-start : (o : PolyBlepOscillator) → Valid o → Valid (at_start o)
unfolding at_start
valid-start o v = record { phase = zero-phase; step = v.step }

pub valid-advanced : (o : PolyBlepOscillator) → Valid o → Valid (advanced o)
unfolding advanced
valid-advanced o v = record { phase = keeps o.phase o.phase_inc v.phase v.step; step = v.step }

-- any number of samples later
pub valid-later : (n : ℕ) (o : PolyBlepOscillator) → Valid o → Valid (later n o)
unfolding later
valid-later zero o v = v
valid-later (suc n) o v = valid-advanced (later n o) (valid-later n o v)

-- "The phase always stays at least 0 and below 1", in the words of the comparisons
pub record InTurn (o : PolyBlepOscillator) : Type 0 where
  pub least : T (le (lit 0 1) o.phase)
  pub most : T (lt o.phase (lit 1 1))

pub in-turn : (o : PolyBlepOscillator) → Valid o → InTurn o
unfolding is_phase
in-turn o v =
    record {
      least = and_l (le (lit 0 1) o.phase) (lt o.phase (lit 1 1)) v.phase;
      most = and_r (le (lit 0 1) o.phase) (lt o.phase (lit 1 1)) v.phase;
    }

-- whatever it was opened with, and however long it runs
pub phase-stays : (n hz rate : ℕ) (w : PolyBlepWaveform) → hz < 4294967296 → rate < 4294967296 → InTurn (later n (new_oscillator hz rate w))
phase-stays n hz rate w h k = in-turn (later n (new_oscillator hz rate w)) (valid-later n (new_oscillator hz rate w) (valid-new hz rate w h k))

-- ---- and so does a voice
pub valid-silent : ValidVoice silent_voice
unfolding silent_voice
valid-silent = record { osc = record { phase = zero-phase; step = zero-step } }

pub valid-started : (hz ms : ℕ) (w : PolyBlepWaveform) (rate : ℕ) → hz < 4294967296 → rate < 4294967296 → ValidVoice (started_voice hz ms w rate)
unfolding started_voice
valid-started hz ms w rate h k = record { osc = valid-new hz rate w h k }

pub valid-stopped : (v : PolyBlepVoice) → ValidVoice v → ValidVoice (stopped_voice v)
unfolding stopped_voice
valid-stopped v h = record { osc = h.osc }

pub valid-stepped : (v : PolyBlepVoice) → ValidVoice v → ValidVoice (stepped_voice v)
unfolding stepped_voice
valid-stepped v h = by-case v.active (eqb v.samples_left 0)
  where
    by-case : (a b : Bool) → ValidVoice (cond a (cond b (voice_of v.osc v.samples_left false) (voice_of (advanced v.osc) (less_one v.samples_left) true)) v)
    by-case true true = record { osc = h.osc }
    by-case true false = record { osc = valid-advanced v.osc h.osc }
    by-case false b = h

-- the above, for attributes
pub ruleset keeps_valid = (valid-new, valid-frequency, valid-rate, valid-waveform, valid-start, valid-advanced, valid-silent, valid-started, valid-stopped, valid-stepped)
