-- Fields of a line that are more than a number. Assumes nothing.
use Rattle.std.specs.Prelude.{ℕ, ◌+◌, cond, List, eqb}
use Rattle.envelope.specs.declared.AdsrSpec.{AdsrSpec}
use Rattle.output.specs.declared.DutyMode.{DutyMode}
use Rattle.output.specs.declared.DutyMode.TheVariants as M
use Rattle.polyblep.specs.declared.PolyBlepWaveform.{PolyBlepWaveform}
use Rattle.polyblep.specs.declared.PolyBlepWaveform.TheVariants as B
use Rattle.tone.specs.declared.Waveform.{Waveform}
use Rattle.tone.specs.declared.Waveform.TheVariants as W
use Rattle.hex_digits.specs.Hex.{byte_at, wide_at}

-- "E": attack ms (2), decay ms (2), sustain (1), release ms (2), from byte k on
abbrev pub spec_at : List ℕ → ℕ → AdsrSpec
spec_at l k =
    record { attack_ms = wide_at l k; decay_ms = wide_at l (k + 2); sustain_q8 = byte_at l (k + 4); release_ms = wide_at l (k + 5) }

-- "0 Linear, 1 SigmaDelta, 2 SigmaDelta2ndOrder"
abbrev pub mode_of : ℕ → DutyMode
mode_of n = cond (eqb n 0) M.Linear (cond (eqb n 1) M.SigmaDelta M.SigmaDelta2ndOrder)

-- the waveforms in the order of the source's types
abbrev pub tone_waveform : ℕ → Waveform
tone_waveform n = cond (eqb n 0) W.Square (cond (eqb n 1) W.Sine W.Triangle)

abbrev pub poly_blep_waveform : ℕ → PolyBlepWaveform
poly_blep_waveform n = cond (eqb n 0) B.Sine (cond (eqb n 1) B.Sawtooth (cond (eqb n 2) B.Square B.Triangle))
