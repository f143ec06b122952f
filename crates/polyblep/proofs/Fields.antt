-- An oscillator or a voice and its bits: its own bits give it back, and what bits gave has those bits. Assumes nothing.
use Rattle.std.proofs.Common.{◌≡◌, ℕ, ◌<◌, true, T, pos, refl}
use lib.Ieee.{binary32, fin, fits, of_bits, to_bits}
use lib.Ieee.Bits.{is_true, of_bits-to_bits, to_bits-of_bits}
use Rattle.std.specs.Prelude.{Some}
use Rattle.polyblep.specs.Ranges.{is_phase, is_step}
use Rattle.polyblep.specs.Oscillators.{Valid, ValidVoice}
use Rattle.polyblep.specs.Restores.{restored, restored_voice}
use Rattle.polyblep.specs.declared.PolyBlepOscillator.{PolyBlepOscillator}
use Rattle.polyblep.specs.declared.PolyBlepVoice.{PolyBlepVoice}
use Rattle.polyblep.proofs.Ranges.{phase-some, step-some}

-- its floats are binary32 ones, as those of every value in code are
pub record Fits (o : PolyBlepOscillator) : Type 0 where
  pub phase : T (fits binary32 o.phase)
  pub step : T (fits binary32 o.phase_inc)

-- ---- its own fields give it back
pub own-fields : (o : PolyBlepOscillator) → Fits o → Valid o → restored (to_bits binary32 o.phase) (to_bits binary32 o.phase_inc) o.waveform o.freq_hz o.sample_rate_hz ≡ Some o
unfolding restored
own-fields o f v =
    rw (of_bits-to_bits binary32 o.phase f.phase, of_bits-to_bits binary32 o.phase_inc f.step, is_true (is_phase o.phase) v.phase, is_true (is_step o.phase_inc) v.step)

pub own-voice : (v : PolyBlepVoice) → Fits v.osc → ValidVoice v → restored_voice (to_bits binary32 v.osc.phase) (to_bits binary32 v.osc.phase_inc) v.osc.waveform v.osc.freq_hz v.osc.sample_rate_hz v.samples_left v.active ≡ Some v
unfolding restored_voice
own-voice v f h = rw (own-fields v.osc f h.osc)

-- ---- and what passes has the bits that were given
pub phase-bits : (n : ℕ) → n < 4294967296 → T (is_phase (of_bits binary32 n)) → to_bits binary32 (of_bits binary32 n) ≡ n
phase-bits n h t = to_bits-of_bits binary32 n h (phase-some (of_bits binary32 n) t)

pub step-bits : (n : ℕ) → n < 4294967296 → T (is_step (of_bits binary32 n)) → to_bits binary32 (of_bits binary32 n) ≡ n
step-bits n h t = to_bits-of_bits binary32 n h (step-some (of_bits binary32 n) t)

-- −0 is told by its bits
pub minus-zero-bits : to_bits binary32 (fin true 0 (pos 0)) ≡ 0x8000_0000
unfolding to_bits
minus-zero-bits = refl
