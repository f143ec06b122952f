-- Requests one after another. Assumes nothing.
use Rattle.std.proofs.Common.{ℕ, zero, suc, Bool, refl, arith, ne_eqb}
use lib.Ieee.{Float}
use Rattle.laws.specs.Runs.{after}
use Rattle.tone.proofs.Sounding.{Counted}
use Rattle.polyblep.specs.Blocks.{blep_after, moved, cut_at}
use Rattle.polyblep.specs.Oscillators.{ValidVoice, oscillator, voice_of, advanced, sample_of, stepped_voice, float_given, cut_given}
use Rattle.polyblep.specs.declared.PolyBlepVoice.{PolyBlepVoice}
use Rattle.polyblep.proofs.Laws.{valid-stepped}

-- the voice at another phase, with so many samples left, sounding or not
abbrev pub blep_at : PolyBlepVoice → Float → ℕ → Bool → PolyBlepVoice
blep_at v phase left active =
    voice_of (oscillator phase v.osc.phase_inc v.osc.waveform v.osc.freq_hz v.osc.sample_rate_hz) left active

pub blep-counted : (v : PolyBlepVoice) → Counted (moved v.osc.phase_inc) (cut_at v.osc.waveform v.osc.phase_inc) (blep_at v) stepped_voice (λ v. cut_given (float_given v)) (λ v. v.active)
unfolding stepped_voice float_given advanced sample_of
blep-counted v =
    record {
      moves = λ p left h. rw (ne_eqb left 0 (λ e. omega arith));
      sample = λ p left h. rw (ne_eqb left 0 (λ e. omega arith));
      ends = λ p. refl;
      end = λ p. refl;
      rests = λ p left. refl;
      none = λ p left. refl;
      flag = λ p left a. refl;
    }

pub valid-after : (n : ℕ) (v : PolyBlepVoice) → ValidVoice v → ValidVoice (blep_after n v)
unfolding after
valid-after zero v h = h
valid-after (suc n) v h = valid-after n (stepped_voice v) (valid-stepped v h)
