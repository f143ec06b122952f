-- Document 01's examples of PolyBLEP, computed. Assumes nothing.
use Rattle.std.proofs.Common.{◌≡◌, pos, refl}
use lib.Ieee.{add, sub, mul, div, neg, round, lt, le, of_int, to_signed}
use Rattle.laws.specs.F32.{held_to_f}
use Rattle.polyblep.specs.Blep.{poly_blep}
use Rattle.polyblep.specs.Waves.{sawtooth, square, half_turn, shape, sample_at}
use Rattle.polyblep.specs.Oscillators.{step_of, new_oscillator, sample_of, truncated}
use Rattle.polyblep.specs.declared.PolyBlepWaveform.TheVariants as W

-- "First sawtooth sample at 440 Hz, 48,000: 127; first square sample: 0."
pub sawtooth-first : truncated (sample_of (new_oscillator 440 48000 W.Sawtooth)) ≡ pos 127
unfolding truncated sample_of new_oscillator step_of sample_at shape sawtooth poly_blep held_to_f add sub mul div neg round lt le of_int to_signed
sawtooth-first = refl

pub square-first : truncated (sample_of (new_oscillator 440 48000 W.Square)) ≡ pos 0
unfolding truncated sample_of new_oscillator step_of sample_at shape square half_turn poly_blep held_to_f add sub mul div neg round lt le of_int to_signed
square-first = refl
