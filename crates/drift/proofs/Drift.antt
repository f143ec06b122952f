-- How true the float pitch stays: n × 3 ÷ 2^26, and so T-12's n × 5 ÷ 2^26. A third of it is the step's rounding, which each sample repeats; the rest
-- is the rounding of the sums. Assumes nothing.
use mathlib.Core.Path.{◌≡◌, refl, ap, subst}
use mathlib.Core.Logic.{inl, inr}
use Prim.Native.Nat.{ℕ, zero, suc, ◌+◌, ◌*◌, ◌/◌, ◌%◌, ◌^◌, ◌≤◌, ◌<◌}
use native.Mathlib.Nat.{div-add-mod', mod-lt, mul-le-mul_right, mul-le-mul_left, le_of_mul-le-mul_right, lt_of_mul-lt-mul_right, mul-pos}
use native.Mathlib.Omega.{arith}
use mathlib.Core.Bool.{false}
use lib.Dec.{leb→le}
use lib.IntN.{negsuc}
use lib.Pow.{pow_pos}
use lib.Ieee.{Float, nan, inf, fin, binary32, round}
use lib.Ieee.Exact.{HasValue}
use lib.Ieee.Fits.{round-fits}
use lib.Ieee.Positive.{num, den, den_pos, value→cross}
use Rattle.laws.specs.F32.{lit}
use Rattle.laws.proofs.F32.{zero_is}
use Rattle.laws.proofs.Rounding.{round-down}
use Rattle.polyblep.specs.Oscillators.{step_of, new_oscillator, later}
use Rattle.polyblep.specs.declared.PolyBlepWaveform.{PolyBlepWaveform}
use Rattle.polyblep.specs.declared.PolyBlepOscillator.{PolyBlepOscillator}
use Rattle.drift.specs.Turns.{turns}
use Rattle.drift.specs.Pitch.{InReach, Within, Inside, TurnsWithin, MeanWithin, Fraction, Pitch}
use Rattle.drift.proofs.Values.{U, P, least-units, grains}
use Rattle.drift.proofs.Start.{step_is, step-units, step_value, step_fits, step-most, step-near, step-nearer}
use Rattle.drift.proofs.Prices.{order}
use Rattle.drift.proofs.Credit.{run}
use Rattle.drift.proofs.Cases.{Good, GoodEven, pay-low, pay-even, pay-odd}

-- ---- numbers
-- what the sums and the step are off by, together
joined : (s v n e f r a b l : ℕ) → Within e s (n * v) → e ≤ n * a → Within (r * b) (v * r) (f * l) → Within (n * (a + b) * r) (s * r) (n * f * l)
joined s v n e f r a b l p h q =
    let x : s * r ≤ (n * v + e) * r = mul-le-mul_right r p.0 in
    let y : n * v * r ≤ (s + e) * r = mul-le-mul_right r p.1 in
    let z : e * r ≤ n * a * r = mul-le-mul_right r h in
    let c : n * (v * r) ≤ n * (f * l + r * b) = mul-le-mul_left n q.0 in
    let d : n * (f * l) ≤ n * (v * r + r * b) = mul-le-mul_left n q.1 in
    (omega (arith, x, z, c), omega (arith, y, z, d))

-- from units of 2^−149 to the phase's own fraction a ÷ c, with p for 2^123
as-fraction : (t u a c n f r p k : ℕ) → 0 < p → a * (p * 67108864) ≡ u * c → Within (n * (p * k) * r) ((t * (p * 67108864) + u) * r) (n * f * (p * 67108864))
    → Within (n * k * (r * c)) ((t * c + a) * r * 67108864) (n * f * c * 67108864)
as-fraction t u a c n f r p k K h w =
    let i : a * (p * 67108864) * r ≡ u * c * r = ap (λ (z : ℕ). z * r) h in
    let x : (t * (p * 67108864) + u) * r * c ≤ (n * f * (p * 67108864) + n * (p * k) * r) * c = mul-le-mul_right c w.0 in
    let y : n * f * (p * 67108864) * c ≤ ((t * (p * 67108864) + u) * r + n * (p * k) * r) * c = mul-le-mul_right c w.1 in
    let x' : (t * c + a) * r * 67108864 * p ≤ (n * f * c * 67108864 + n * k * (r * c)) * p = omega (arith, i, x) in
    let y' : n * f * c * 67108864 * p ≤ ((t * c + a) * r * 67108864 + n * k * (r * c)) * p = omega (arith, i, y) in
    (le_of_mul-le-mul_right x' K, le_of_mul-le-mul_right y' K)

looser : (n c a b : ℕ) → Within (n * 3 * c) a b → Within (n * 5 * c) a b
looser n c a b w = let x = w.0 in let y = w.1 in (omega (arith, x), omega (arith, y))

-- strictly, where there is a sample
listened : (n r c a b f : ℕ) → 0 < n → 0 < r → 0 < c → b ≡ f * (n * c) * 67108864 → Within (n * 3 * (r * c)) a b → Inside (r * 5 * (n * c)) a (f * (n * c) * 67108864)
listened n r c a b f N R C e w =
    let x = w.0 in
    let y = w.1 in
    let z : 0 < n * (r * c) = mul-pos N (mul-pos R C) in
    (omega (arith, x, z), omega (arith, y, z))

-- 48,000 × 5 ÷ 2^26 is below 36 ÷ 10,000
in-hertz : (a b c r : ℕ) → r ≤ 48000 → Inside (r * 5 * c) (a * 67108864) (b * 67108864) → Inside (36 * c) (a * 10000) (b * 10000)
in-hertz a b c r h w =
    let x = w.0 in
    let y = w.1 in
    let m : r * c ≤ 48000 * c = mul-le-mul_right c h in
    (omega (arith, x, m), omega (arith, y, m))

-- ---- where the step lies
low-arith : (v r f l q : ℕ) → l ≡ 134217728 * q → 0 < q → r ≤ 65537 → f * 4 < r → v * r ≤ f * l + r * q → v * 4 * r < l * r
low-arith v r f l q L K most h n =
    let x : (f * 4 + 1) * l ≤ r * l = mul-le-mul_right l (let i : f * 4 + 1 ≤ r = omega arith in i) in
    let y : r * q ≤ 65537 * q = mul-le-mul_right q most in
    omega arith

quarter-is : round binary32 false 1 4 ≡ fin false 1 (negsuc 1)
unfolding round
quarter-is = refl

plain : (l v : ℕ) → 1 * 1 * l ≤ v * 4 → l ≤ v * 4
plain l v h = omega arith

quarter : (f r : ℕ) → r ≤ f * 4 → 1 * r ≤ f * 4
quarter f r h = omega arith

data Half : ℕ → Type 0 where
  even : (k : ℕ) → Half (k * 2)
  odd : (k : ℕ) → Half (k * 2 + 1)

halves : (t : ℕ) → Half t
halves t = subst Half (div-add-mod' t 2) (go (t / 2) (t % 2) (mod-lt t (leb→le 1 2 tt)))
  where
    go : (k m : ℕ) → m < 2 → Half (k * 2 + m)
    go k zero h = subst Half (let e : k * 2 ≡ k * 2 + 0 = omega arith in e) (even k)
    go k (suc zero) h = odd k
    go k (suc (suc m)) h = absurd (omega arith)

twice : (v k p : ℕ) → v ≡ k * 2 * (p * 2) → v ≡ k * (p * 4)
twice v k p h = omega arith

-- a phase in units has no minus, and is its own fraction
own-fraction : (x : Float) (u : ℕ) → HasValue x false u U → Fraction x
own-fraction nan u h = absurd h
own-fraction (inf s) u h = absurd h
own-fraction (fin s m e) u h = (h.0, refl)

zero-phase : HasValue (lit 0 1) false 0 U
zero-phase = rw zero_is (refl, refl)

module _ (hz rate : ℕ) (r : InReach hz rate) (w : PolyBlepWaveform) where
  o : PolyBlepOscillator
  o = new_oscillator hz rate w

  v : ℕ
  v = step-units hz rate r

  -- the phase after n samples, in units, and what it and the turns are off by
  Off : ℕ → Type 0
  Off n = (u : ℕ) × HasValue (later n o).phase false u U × Within (n * (P * 3) * rate) ((turns n o * U + u) * rate) (n * hz * U)

  low : hz * 4 < rate → v * 4 < U
  unfolding v
  low h = lt_of_mul-lt-mul_right rate (low-arith (step-units hz rate r) rate hz U (2 ^ 122) refl (pow_pos 122) r.most h (step-nearer hz rate r h).0)

  high : rate ≤ hz * 4 → U ≤ v * 4
  unfolding v
  high h =
      plain U (step-units hz rate r)
      (least-units 1 (negsuc 1) (step_of hz rate) (step-units hz rate r)
      (rw (step_is hz rate r) (round-down hz rate 1 4 r.least (leb→le 1 4 tt) (quarter hz rate h) quarter-is))
      (step_value hz rate r))

  by-low : hz * 4 < rate → (n : ℕ) → Off n
  unfolding v o new_oscillator Off
  by-low h n =
      let k = run Good (2 ^ 122 * 5) (2 ^ 122 * 3) 4 v o (pow_pos 149, round-fits binary32 false 0 1) zero-phase
      (pay-low (step_of hz rate) v (step-most hz rate r) (step_value hz rate r) (low h)) n in
      (k.units, k.value, joined (turns n o * U + k.units) v n k.off hz rate (2 ^ 122 * 5) (2 ^ 122) U k.near k.within (step-nearer hz rate r h))

  by_high : (t : ℕ) → v ≡ t * (P * 2) → Half t → (n : ℕ) → Off n
  unfolding v o new_oscillator Off
  by_high t e (even j) n =
      let k = run GoodEven (P * 2) (P * 2) 2 v o (pow_pos 149, round-fits binary32 false 0 1, (0, refl)) zero-phase
      (pay-even (step_of hz rate) v (step-most hz rate r) (step_value hz rate r) (j, twice v j P e)) n in
      (k.units, k.value, joined (turns n o * U + k.units) v n k.off hz rate (P * 2) P U k.near k.within (step-near hz rate r))
  by_high t e (odd j) n =
      let k = run Good (P * 2) 0 1 v o (pow_pos 149, round-fits binary32 false 0 1) zero-phase
      (pay-odd (step_of hz rate) v (step-most hz rate r) (step_value hz rate r) j e) n in
      (k.units, k.value, joined (turns n o * U + k.units) v n k.off hz rate (P * 2) P U k.near k.within (step-near hz rate r))

  off : (n : ℕ) → Off n
  unfolding v
  off n =
      elim (order rate (hz * 4)) [
        | inl h ↦ (let g = grains 2 (leb→le 2 3 tt) (step_of hz rate) v (step_fits hz rate r) (step_value hz rate r) (high h) in by_high g.0 g.1 (halves g.0) n)
        | inr h ↦ by-low h n
      ]

  drift : (n : ℕ) → TurnsWithin 3 n hz rate (turns n o) (later n o).phase
  unfolding Off
  drift n =
      let k = off n in
      let x = (later n o).phase in
      as-fraction (turns n o) k.0 (num x) (den x) n hz rate P 3 (pow_pos 123) (value→cross x k.0 U k.1) k.2

  exact : (n : ℕ) → Fraction (later n o).phase
  unfolding Off
  exact n = let k = off n in own-fraction (later n o).phase k.0 k.1

  mean-drift : (n : ℕ) → 0 < n → MeanWithin 5 n hz rate (turns n o) (later n o).phase
  mean-drift n h =
      let x = (later n o).phase in
      listened n rate (den x) ((turns n o * den x + num x) * rate * 2 ^ 26) (n * hz * den x * 2 ^ 26) hz h r.least (den_pos x) (omega arith) (drift n)

  pub pitch : Pitch hz rate w
  unfolding o
  pitch =
      record {
        fraction = exact;
        limit = λ n. let x = (later n o).phase in looser n (rate * den x) ((turns n o * den x + num x) * rate * 2 ^ 26) (n * hz * den x * 2 ^ 26) (drift n);
        tighter = drift;
        mean = mean-drift;
        heard = λ n h k. let x = (later n o).phase in in-hertz ((turns n o * den x + num x) * rate) (hz * (n * den x)) (n * den x) rate k (mean-drift n h);
      }
