-- Inner: requests for samples one after another, a block of them at once. Assumes nothing.
use Rattle.std.specs.Prelude.{◌≡◌, ℕ, ◌+◌, ◌-◌, ◌%◌, ◌^◌, min, cond, List, [], ◌∷◌, ℤ, ◌==◌, Option}
use Rattle.std.proofs.lemmas.List.Edits.{sets}
use Rattle.laws.specs.Runs.{after, given}
use Rattle.fixed.specs.Answers.{Filled}
use Rattle.fixed.specs.Fixed.{index_of}
use Rattle.fixed.specs.declared.Step.{Step}
use Rattle.tone.specs.Duration.{forever}
use Rattle.tone.specs.Tones.{wave, stepped_tone}
use Rattle.tone.specs.declared.ToneVoice.{ToneVoice}
use Rattle.tone.specs.declared.Waveform.{Waveform}

-- n samples fewer, unless the source never ends
unfoldable pub less_by : ℕ → ℕ → ℕ
less_by left n = cond (left == forever) forever (left - n)

-- how many of n requests give a sample: as many as are left, and all where the source never ends
unfoldable pub given_by : ℕ → ℕ → ℕ
given_by left n = cond (left == forever) n (min left n)

-- the oscillator after n requests, and their answers
abbrev pub tone_after : ℕ → ToneVoice → ToneVoice
tone_after n v = after (λ v. (stepped_tone v).voice) n v

abbrev pub tone_run : ℕ → ToneVoice → List (Option ℤ)
tone_run n v = given (λ v. (stepped_tone v).voice) (λ v. (stepped_tone v).given ∷ []) n v

pub record ToneBlock (v : ToneVoice) (n : ℕ) (cells : List ℤ) (r : Step ToneVoice ℕ) (filled : List ℤ) : Type 0 where
  pub voice : r.voice ≡ tone_after n v
  pub given : Filled (tone_run n v) cells r.given filled

-- n phases a step apart: the cells from the front on take the wave at each, and the phase after them is given back
pub record Waved {P : Type 0} (move : P → P) (wave : P → ℤ) (n : ℕ) (phase : P) (cells : List ℤ) (next : P) (filled : List ℤ) : Type 0 where
  pub moved : next ≡ after move n phase
  pub taken : filled ≡ sets cells 0 (given move (λ p. wave p ∷ []) n phase)

-- "Phases are 32-bit and wrap"
abbrev pub turned : ℕ → ℕ → ℕ
turned step phase = (phase + step) % 2 ^ 32

-- "the top eight bits are the index into the wave"
abbrev pub wave_at : Waveform → ℕ → ℤ
wave_at w phase = wave w (index_of phase)
