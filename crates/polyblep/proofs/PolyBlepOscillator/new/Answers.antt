-- `polyblep::PolyBlepOscillator::new` meets its contract, by its callees'; its step lies in its range.
use Rattle.std.proofs.Common.{arith}
use lib.Ieee.{of_bits, round}
use Rattle.laws.proofs.Made.{made}
use Rattle.polyblep.specs.Oscillators.{new_oscillator}
use Rattle.polyblep.proofs.Laws.{valid-new}
use Rattle.polyblep.proofs.PolyBlepOscillator.new.Goals as goal

pub returns : goal.returns
unfolding new_oscillator of_bits round
returns c =
    let a = c.args in
    made (rw (c.max.ensures, c.phase_step.ensures)) (valid-new a.freq_hz a.sample_rate_hz a.waveform (omega arith) (omega arith))
