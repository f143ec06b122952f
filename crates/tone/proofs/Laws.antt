-- Laws of the tone's definitions. Assumes nothing.
use Rattle.std.proofs.Common.{◌≡◌, ℕ, ◌≤◌, Bool, cond, eqb, refl, arith, ne_eqb}
use Rattle.laws.specs.Durations.{samples_of}
use Rattle.laws.proofs.Durations.{samples-wrapped}
use Rattle.tone.specs.Duration.{forever, duration_of}
use Rattle.tone.specs.Tones.{stepped_tone}
use Rattle.tone.specs.Blocks.{turned, wave_at}
use Rattle.tone.specs.declared.ToneVoice.{ToneVoice}
use Rattle.tone.proofs.Sounding.{Counted}

-- at document 01's rates the product of 32 bits is the product
pub duration-samples : (ms rate : ℕ) → ms ≤ 65535 → rate ≤ 65537 → duration_of ms rate ≡ cond (eqb ms 0) forever (samples_of ms rate)
unfolding duration_of
duration-samples ms rate h k = rw (samples-wrapped ms rate h k)

-- ---- requests one after another
-- the oscillator at another phase, with so many samples left, sounding or not
abbrev pub tone_at : ToneVoice → ℕ → ℕ → Bool → ToneVoice
tone_at v phase left active = record { phase = phase; phase_inc = v.phase_inc; waveform = v.waveform; samples_left = left; active = active }

pub tone-counted : (v : ToneVoice) → Counted (turned v.phase_inc) (wave_at v.waveform) (tone_at v) (λ v. (stepped_tone v).voice) (λ v. (stepped_tone v).given) (λ v. v.active)
unfolding stepped_tone
tone-counted v =
    record {
      moves = λ p left h. rw (ne_eqb left 0 (λ e. omega arith));
      sample = λ p left h. rw (ne_eqb left 0 (λ e. omega arith));
      ends = λ p. refl;
      end = λ p. refl;
      rests = λ p left. refl;
      none = λ p left. refl;
      flag = λ p left a. refl;
    }
