-- T-12's limit cannot be halved: with 2^27 it fails at 34 Hz, rate 75, after 17 samples. Assumes nothing.
use Prim.Native.Nat.{ℕ, ◌+◌, ◌*◌, ◌^◌}
use mathlib.Core.Path.{◌≡◌, refl}
use mathlib.Core.Bool.{false}
use lib.Dec.{le→leb}
use lib.IntN.{negsuc}
use lib.Ieee.{Float, fin, add, sum, sub, div, neg, round, lt, le, eq, of_int}
use lib.Ieee.Positive.{num, den}
use Rattle.laws.specs.F32.{held_to_f}
use Rattle.polyblep.specs.Oscillators.{step_of, new_oscillator, advance, advanced, later}
use Rattle.polyblep.specs.declared.PolyBlepWaveform.{PolyBlepWaveform}
use Rattle.drift.specs.Turns.{turn, turns}
use Rattle.drift.specs.Pitch.{Within, turns_from, phase_from}

phase-is : (w : PolyBlepWaveform) → phase_from 34 75 w 17 ≡ fin false 5927955 (negsuc 22)
unfolding later advanced advance new_oscillator step_of held_to_f add sum sub div neg round lt le eq of_int
phase-is w = refl

turns-are : (w : PolyBlepWaveform) → turns_from 34 75 w 17 ≡ 7
unfolding turns turn later advanced advance new_oscillator step_of held_to_f add sum sub div neg round lt le eq of_int
turns-are w = refl

-- as `TurnsWithin` has it, but for the power of 2
abbrev Halved : ℕ → ℕ → ℕ → ℕ → Float → Type 0
Halved n hz rate t x = Within (n * 5 * (rate * den x)) ((t * den x + num x) * rate * 2 ^ 27) (n * hz * den x * 2 ^ 27)

pub half-fails : (w : PolyBlepWaveform) → Halved 17 34 75 (turns_from 34 75 w 17) (phase_from 34 75 w 17) → ⊥
half-fails w h = refuted (rw (phase-is w, turns-are w) at h)
  where
    refuted : Halved 17 34 75 7 (fin false 5927955 (negsuc 22)) → ⊥
    refuted k = le→leb ((7 * 8388608 + 5927955) * 75 * 2 ^ 27) (17 * 34 * 8388608 * 2 ^ 27 + 17 * 5 * (75 * 8388608)) k.0
