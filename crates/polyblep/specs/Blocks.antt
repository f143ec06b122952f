-- Inner: requests for samples one after another, a block of them at once. Assumes nothing.
use Rattle.std.specs.Prelude.{ℕ, List, [], ◌∷◌, ℤ, Float, Option}
use Rattle.std.specs.Float.Ieee.{neg}
use Rattle.laws.specs.F32.{lit, held_to_f}
use Rattle.laws.specs.Made.{Made}
use Rattle.laws.specs.Runs.{after, given}
use Rattle.fixed.specs.Answers.{Filled}
use Rattle.fixed.specs.declared.Step.{Step}
use Rattle.polyblep.specs.Oscillators.{ValidVoice, advance, stepped_voice, float_given, truncated, cut_given}
use Rattle.polyblep.specs.Waves.{sample_at}
use Rattle.polyblep.specs.declared.PolyBlepWaveform.{PolyBlepWaveform}
use Rattle.polyblep.specs.declared.PolyBlepVoice.{PolyBlepVoice}

-- the voice after n requests, and their answers
abbrev pub blep_after : ℕ → PolyBlepVoice → PolyBlepVoice
blep_after n v = after stepped_voice n v

abbrev pub blep_run : ℕ → PolyBlepVoice → List (Option ℤ)
blep_run n v = given stepped_voice (λ v. cut_given (float_given v) ∷ []) n v

pub record BlepBlock (v : PolyBlepVoice) (n : ℕ) (cells : List ℤ) (r : Step PolyBlepVoice ℕ) (filled : List ℤ) : Type 0 where
  pub voice : Made ValidVoice (blep_after n v) r.voice
  pub given : Filled (blep_run n v) cells r.given filled

-- the phase one sample later, and the sample at a phase, both for one step
abbrev pub moved : Float → Float → Float
moved step phase = advance phase step

abbrev pub cut_at : PolyBlepWaveform → Float → Float → ℤ
cut_at w step phase = truncated (sample_at w phase step)

-- a waveform's value held to −1..1 and cut to eight bits
abbrev pub cut_of : Float → ℤ
cut_of x = truncated (held_to_f (neg (lit 1 1)) (lit 1 1) x)
