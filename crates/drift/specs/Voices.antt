-- A voice gives the samples of the oscillator that its start makes, one a request, for as long as it lasts. Assumes nothing.
use Rattle.std.specs.Prelude.{ℕ, suc, ◌≤◌, ◌≡◌, ◌⊎◌, Some}
use Rattle.laws.specs.Durations.{samples_of}
use Rattle.laws.specs.Runs.{after}
use Rattle.polyblep.specs.Oscillators.{new_oscillator, later, sample_of, started_voice, stepped_voice, float_given}
use Rattle.polyblep.specs.declared.PolyBlepVoice.{PolyBlepVoice}
use Rattle.polyblep.specs.declared.PolyBlepWaveform.{PolyBlepWaveform}

-- document 01: "A duration of 0 ms never ends; otherwise floor(ms × rate ÷ 1000) samples"
abbrev pub Lasts : ℕ → ℕ → ℕ → Type 0
Lasts ms rate n = (ms ≡ 0) ⊎ (n ≤ samples_of ms rate)

-- the voice after n requests
abbrev pub requested : ℕ → ℕ → PolyBlepWaveform → ℕ → ℕ → PolyBlepVoice
requested hz ms w rate n = after stepped_voice n (started_voice hz ms w rate)

pub record Follows (hz ms : ℕ) (w : PolyBlepWaveform) (rate : ℕ) : Type 0 where
  pub phase : (n : ℕ) → Lasts ms rate n → (requested hz ms w rate n).osc ≡ later n (new_oscillator hz rate w)
  pub sample : (n : ℕ) → Lasts ms rate (suc n) → float_given (requested hz ms w rate n) ≡ Some (sample_of (later n (new_oscillator hz rate w)))
