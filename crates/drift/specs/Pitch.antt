-- Document 02, T-12: "After n samples from a start, the completed turns plus the phase lie within n × 5 ÷ 2^26 of n × Hz ÷ rate. Put both
-- sides over whole numbers, the phase as its exact fraction." Assumes nothing.
use Rattle.std.specs.Prelude.{ℕ, ◌+◌, ◌*◌, ◌^◌, ◌≤◌, ◌<◌, false, Float}
use Rattle.std.specs.Float.Ieee.Exact.{HasValue}
use Rattle.std.specs.Float.Ieee.Positive.{num, den}
use Rattle.polyblep.specs.Oscillators.{new_oscillator, later}
use Rattle.polyblep.specs.declared.PolyBlepWaveform.{PolyBlepWaveform}
use Rattle.drift.specs.Turns.{turns}

-- "for Hz up to 16,777,216 and rate from 1 to 65,537 with 1000 × Hz below 499 × rate"
pub record InReach (hz rate : ℕ) : Type 0 where
  pub exact : hz ≤ 16777216
  pub least : 1 ≤ rate
  pub most : rate ≤ 65537
  pub below : 1000 * hz < 499 * rate

-- a and b differ by at most e; by less
abbrev pub Within : ℕ → ℕ → ℕ → Type 0
Within e a b = (a ≤ b + e) × (b ≤ a + e)

abbrev pub Inside : ℕ → ℕ → ℕ → Type 0
Inside e a b = (a < b + e) × (b < a + e)

-- t + x lies within n × k ÷ 2^26 of n × hz ÷ rate, all times rate × 2^26 and the phase's own divisor: x is num x ÷ den x, its digits times a
-- power of 2
abbrev pub TurnsWithin : ℕ → ℕ → ℕ → ℕ → ℕ → Float → Type 0
TurnsWithin k n hz rate t x = Within (n * k * (rate * den x)) ((t * den x + num x) * rate * 2 ^ 26) (n * hz * den x * 2 ^ 26)

-- the mean frequency over n samples, (t + x) × rate ÷ n, differs from hz by less than rate × k ÷ 2^26: all times n, 2^26 and the divisor
abbrev pub MeanWithin : ℕ → ℕ → ℕ → ℕ → ℕ → Float → Type 0
MeanWithin k n hz rate t x = Inside (rate * k * (n * den x)) ((t * den x + num x) * rate * 2 ^ 26) (hz * (n * den x) * 2 ^ 26)

-- it differs from hz by less than k ten-thousandths of a Hz
abbrev pub MeanUnder : ℕ → ℕ → ℕ → ℕ → ℕ → Float → Type 0
MeanUnder k n hz rate t x = Inside (k * (n * den x)) ((t * den x + num x) * rate * 10000) (hz * (n * den x) * 10000)

-- the turns and the phase after n samples from a start
abbrev pub turns_from : ℕ → ℕ → PolyBlepWaveform → ℕ → ℕ
turns_from hz rate w n = turns n (new_oscillator hz rate w)

abbrev pub phase_from : ℕ → ℕ → PolyBlepWaveform → ℕ → Float
phase_from hz rate w n = (later n (new_oscillator hz rate w)).phase

-- x is a number from 0 up, and the fraction num x ÷ den x
abbrev pub Fraction : Float → Type 0
Fraction x = HasValue x false (num x) (den x)

pub record Pitch (hz rate : ℕ) (w : PolyBlepWaveform) : Type 0 where
  pub fraction : (n : ℕ) → Fraction (phase_from hz rate w n)
  -- T-12
  pub limit : (n : ℕ) → TurnsWithin 5 n hz rate (turns_from hz rate w n) (phase_from hz rate w n)
  -- what the proof gives
  pub tighter : (n : ℕ) → TurnsWithin 3 n hz rate (turns_from hz rate w n) (phase_from hz rate w n)
  -- what it means for a listener
  pub mean : (n : ℕ) → 0 < n → MeanWithin 5 n hz rate (turns_from hz rate w n) (phase_from hz rate w n)
  -- at rates up to 48,000 that is under 0.0036 Hz
  pub heard : (n : ℕ) → 0 < n → rate ≤ 48000 → MeanUnder 36 n hz rate (turns_from hz rate w n) (phase_from hz rate w n)
