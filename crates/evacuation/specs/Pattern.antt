-- Document 02, T-01: "a three-pulse signal: on 0.5 s, off 0.5 s, three times, but the last off is 1.5 s". Assumes nothing.
use Rattle.std.specs.Prelude.{ℕ, suc, ◌+◌, ◌*◌, ◌-◌, ◌%◌, Bool, cond, List, [], ◌∷◌, ◌++◌, map, ltb, eqb, leb, pos, nat_abs, ◌-ℤ◌, replicate}
use Rattle.laws.specs.Runs.{given}
use Rattle.laws.specs.Durations.{samples_of}

-- "Keep the six durations in milliseconds as a fixed list"
abbrev pub phases : List ℕ
phases = 500 ∷ 500 ∷ 500 ∷ 500 ∷ 500 ∷ 1500 ∷ []

-- phases alternate, "on" first: phase k, counted from 0, sounds where k is even
abbrev pub is_on : ℕ → Bool
is_on k = eqb (k % 2) 0

-- "bytes, 1 on and 0 off"
abbrev pub byte_of : Bool → ℕ
byte_of on = cond on 1 0

-- "Each phase has floor(ms × rate ÷ 1000) samples"
unfoldable pub lengths : ℕ → List ℕ
lengths rate = map (λ (ms : ℕ). samples_of ms rate) phases

unfoldable pub total : List ℕ → ℕ
total [] = 0
total (n ∷ ns) = n + total ns

-- a cycle is its six phases
unfoldable pub cycle_of : ℕ → ℕ
cycle_of rate = total (lengths rate)

-- the phase in which the sample p of a cycle lies
unfoldable pub phase_at : List ℕ → ℕ → ℕ
phase_at [] p = 0
phase_at (n ∷ ns) p = cond (ltb p n) 0 (suc (phase_at ns (p - n)))

-- "give, per sample, whether the signal sounds": of sample n, counted from the pattern's start without bound
unfoldable pub sounds : ℕ → ℕ → Bool
sounds rate n = is_on (phase_at (lengths rate) (n % cycle_of rate))

abbrev pub sound_byte : ℕ → ℕ → ℕ
sound_byte rate n = byte_of (sounds rate n)

-- a run of samples from the sample `first` on
abbrev pub samples_from : ℕ → ℕ → ℕ → List ℕ
samples_from rate first len = given suc (λ (n : ℕ). sound_byte rate n ∷ []) len first

-- "each within one tenth of its nominal length": 10 × |1000 × samples − ms × rate| ≤ ms × rate
unfoldable pub within_tenth : ℕ → ℕ → ℕ → Bool
within_tenth ms rate samples = leb (10 * nat_abs (pos (1000 * samples) -ℤ pos (ms * rate))) (ms * rate)

-- the bytes of phases of these lengths, the first of them phase k
unfoldable pub spelt : ℕ → List ℕ → List ℕ
spelt k [] = []
spelt k (n ∷ ns) = replicate n (byte_of (is_on k)) ++ spelt (suc k) ns
