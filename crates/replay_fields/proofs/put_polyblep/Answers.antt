-- `replay_fields::put_polyblep` meets its contract: two texts, one after the other. A phase and a step in their ranges are no NaN.
use native.Mathlib.Omega.{arith}
use mathlib.Core.Path.{sym}
use Rattle.hex_digits.proofs.Texts.{then}
use Rattle.polyblep.proofs.Ranges.{phase-some, step-some}
use Rattle.replay_fields.proofs.put_polyblep.Goals as goal

pub bits_of-phase-requires : goal.bits_of-phase-requires
bits_of-phase-requires c = rw (c.phase.ensures, c.oscillator-osc.ensures) (phase-some _ c.requires.osc.phase)

pub bits_of-step-requires : goal.bits_of-step-requires
bits_of-step-requires c = rw (c.phase_inc.ensures, c.oscillator-osc.ensures) (step-some _ c.requires.osc.step)

pub returns : goal.returns
returns c = (
  rw (sym c.oscillator-osc.ensures, sym c.phase.ensures, sym c.bits_of-phase.ensures, sym c.phase_inc.ensures, sym c.bits_of-step.ensures, sym c.waveform.ensures, sym c.polyblep_number-waveform.ensures, sym c.frequency-hz.ensures, sym c.sample_rate_hz-rate.ensures, sym c.samples_left-left.ensures, sym c.is_active.ensures, sym c.flag_number-active.ensures)
      (then c.put_four-n4.ensures.0 c.put_four.ensures.0),
  omega (arith, c.put_four.ensures.1, c.put_four-n4.ensures.1),
)
