-- Laws of the fade's step. Assumes nothing.
use mathlib.Core.Path.{◌≡◌, refl, sym}
use mathlib.Core.Bool.{Bool, true, false, cond, ◌||◌}
use Prim.Native.Nat.{ℕ, zero, suc, ◌+◌, ◌-◌, ◌*◌, ◌≤◌, ◌<◌}
use native.Mathlib.Nat.{div-le_of_le-mul, le-div_iff_mul-le, zero-mul, mul-zero}
use native.Mathlib.Omega.{arith}
use borrow.Author.Tests.{eq-eqb, ne_eqb}
use lib.Dec.{eqb}
use Rattle.std.specs.Int.{div_ceil}
use Rattle.std.proofs.lemmas.Grind.{div_ceil_times}
use Rattle.std.proofs.lemmas.Nat.{div-mul-add}
use Rattle.laws.specs.Durations.{samples_of, samples_wrapped}
use Rattle.laws.proofs.Durations.{samples-wrapped}
use Rattle.config.specs.Config.{rounded_up, fade_step}

-- 255 ÷ m rounded up is 1..255
pub up_least : (m : ℕ) → 0 < m → 1 ≤ rounded_up 255 m
up_least m p = (le-div_iff_mul-le {k = m} {x = 1} {y = 255 + (m - 1)} p).1 (omega arith)

pub up-most : (m : ℕ) → 0 < m → rounded_up 255 m ≤ 255
up-most m p = div-le_of_le-mul m (omega arith)

-- the standard library's rounding up is document 01's
pub ceil-rounded_up : (m : ℕ) → 0 < m → div_ceil 255 m ≡ rounded_up 255 m
ceil-rounded_up m p =
    let c = div_ceil 255 m in
    let h = div_ceil_times 255 m p in
    let b = 255 + (m - 1) - c * m in
    let l : b < m = omega (arith, h.0) in
    let e : c * m + b ≡ 255 + (m - 1) = omega (arith, h.1) in
    sym (rw e at (div-mul-add c m b l))

-- no whole sample
pub step-none : (ms rate : ℕ) → samples_wrapped ms rate ≡ 0 → fade_step ms rate ≡ 255
unfolding fade_step
step-none ms rate e = rw (eq-eqb _ _ e) (by-test (eqb ms 0) (eqb rate 0))
  where
    by-test : (t u : Bool) → cond (t || u || true) 255 (rounded_up 255 (samples_wrapped ms rate)) ≡ 255
    by-test true u = refl
    by-test false true = refl
    by-test false false = refl

-- a whole sample, so neither the time nor the rate is 0
pub step-some : (ms rate : ℕ) → 0 < samples_wrapped ms rate → fade_step ms rate ≡ rounded_up 255 (samples_wrapped ms rate)
unfolding fade_step
step-some ms rate p =
    rw (ne_eqb ms 0 (λ e. no (rw (e, zero-mul) at p)), ne_eqb rate 0 (λ e. no (rw (e, mul-zero) at p)), ne_eqb (samples_wrapped ms rate) 0 (λ e. omega arith))
  where
    no : 0 < samples_wrapped 0 0 → ⊥
    no h = omega arith

-- the step moves a fade, and is a byte
by-sample : (ms rate n : ℕ) → samples_wrapped ms rate ≡ n → (1 ≤ fade_step ms rate) × (fade_step ms rate ≤ 255)
by-sample ms rate zero e = rw (step-none ms rate e) (omega arith, omega arith)
by-sample ms rate (suc n) e =
    rw (step-some ms rate (omega arith)) (up_least _ (omega arith), up-most _ (omega arith))

pub step-least : (ms rate : ℕ) → 1 ≤ fade_step ms rate
step-least ms rate = (by-sample ms rate _ refl).0

-- at an engine's rate no product wraps: the samples are document 01's
pub step-samples : (ms rate : ℕ) → ms ≤ 65535 → rate ≤ 65537 → 0 < samples_of ms rate → fade_step ms rate ≡ rounded_up 255 (samples_of ms rate)
step-samples ms rate h k p =
    let e = samples-wrapped ms rate h k in
    rw e at (step-some ms rate (rw e p))
