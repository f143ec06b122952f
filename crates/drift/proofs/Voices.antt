-- A voice follows its oscillator for as long as it lasts. Assumes nothing.
use Prim.Native.Nat.{ℕ, zero, suc, ◌+◌, ◌-◌, ◌≤◌}
use native.Mathlib.Nat.{add-zero, zero-add}
use native.Mathlib.Omega.{arith}
use mathlib.Core.Path.{◌≡◌, refl, ap}
use mathlib.Core.Logic.{◌⊎◌, inl, inr}
use mathlib.Core.Bool.{Bool, true, false, cond}
use borrow.Author.Tests.{eqb-false, ne_eqb}
use lib.Dec.{eqb}
use Rattle.std.specs.Prelude.{Some}
use Rattle.laws.specs.Durations.{samples_of}
use Rattle.laws.specs.Runs.{after}
use Rattle.polyblep.specs.Oscillators.{new_oscillator, later, sample_of, voice_of, started_voice, stepped_voice, float_given}
use Rattle.polyblep.specs.declared.PolyBlepOscillator.{PolyBlepOscillator}
use Rattle.polyblep.specs.declared.PolyBlepVoice.{PolyBlepVoice}
use Rattle.polyblep.specs.declared.PolyBlepWaveform.{PolyBlepWaveform}
use Rattle.tone.specs.Duration.{forever, duration_of, less_one}
use Rattle.tone.proofs.Laws.{duration-samples}
use Rattle.drift.specs.Voices.{Lasts, requested, Follows}

-- ---- samples that are left
abbrev pub Enough : ℕ → ℕ → Type 0
Enough n left = (left ≡ forever) ⊎ (n ≤ left)

pub enough-less : (n left : ℕ) → Enough (suc n) left → Enough n (less_one left)
unfolding less_one
enough-less n left h = by-test (eqb left forever) refl h
  where
    by-test : (t : Bool) → eqb left forever ≡ t → Enough (suc n) left → Enough n (cond t forever (left - 1))
    by-test true e h = inl refl
    by-test false e (inl k) = absurd (eqb-false left forever e k)
    by-test false e (inr k) = inr (omega arith)

pub enough-some : (n left : ℕ) → Enough (suc n) left → left ≡ 0 → ⊥
enough-some n left (inl h) e = omega arith
enough-some n left (inr h) e = omega arith

enough-after : (n left : ℕ) → Enough (suc n) left → after less_one n left ≡ 0 → ⊥
unfolding after
enough-after zero left h e = enough-some 0 left h e
enough-after (suc n) left h e = enough-after n (less_one left) (enough-less (suc n) left h) e

pub lasting : (ms rate n : ℕ) → ms ≤ 65535 → rate ≤ 65537 → Lasts ms rate n → Enough n (duration_of ms rate)
lasting ms rate n h k l = rw (duration-samples ms rate h k) (by-test (eqb ms 0) refl l)
  where
    by-test : (t : Bool) → eqb ms 0 ≡ t → Lasts ms rate n → Enough n (cond t forever (samples_of ms rate))
    by-test true e l = inl refl
    by-test false e (inl z) = absurd (eqb-false ms 0 e z)
    by-test false e (inr k) = inr k

-- ---- the voice after some of its samples
abbrev pub sounding : PolyBlepOscillator → ℕ → PolyBlepVoice
sounding o left = voice_of o left true

pub stepped : (k : ℕ) (o : PolyBlepOscillator) (left : ℕ) → (left ≡ 0 → ⊥) → stepped_voice (sounding (later k o) left) ≡ sounding (later (suc k) o) (less_one left)
unfolding stepped_voice later
stepped k o left h = rw (ne_eqb left 0 h)

voice-after : (o : PolyBlepOscillator) (n k left : ℕ) → Enough n left → after stepped_voice n (sounding (later k o) left) ≡ sounding (later (k + n) o) (after less_one n left)
unfolding after
voice-after o zero k left h = rw add-zero
voice-after o (suc n) k left h =
    let e : suc k + n ≡ k + suc n = omega arith in
    rw (stepped k o left (enough-some n left h)) (rw e at (voice-after o n (suc k) (less_one left) (enough-less n left h)))

given-sample : (o : PolyBlepOscillator) (left : ℕ) → (left ≡ 0 → ⊥) → float_given (sounding o left) ≡ Some (sample_of o)
unfolding float_given
given-sample o left h = rw (ne_eqb left 0 h)

none-later : (o : PolyBlepOscillator) (left : ℕ) → sounding (later 0 o) left ≡ sounding o left
unfolding later
none-later o left = refl

module _ (hz ms : ℕ) (w : PolyBlepWaveform) (rate : ℕ) (m : ms ≤ 65535) (r : rate ≤ 65537) where
  is-sounding : (n : ℕ) → Lasts ms rate n
      → requested hz ms w rate n ≡ sounding (later n (new_oscillator hz rate w)) (after less_one n (duration_of ms rate))
  unfolding started_voice
  is-sounding n l =
      let o = new_oscillator hz rate w in
      let e = voice-after o n 0 (duration_of ms rate) (lasting ms rate n m r l) in
      rw (none-later o (duration_of ms rate), zero-add) at e

  pub follows : Follows hz ms w rate
  follows =
      record {
        phase = λ n l. ap (λ (v : PolyBlepVoice). v.osc) (is-sounding n l);
        sample = λ n l.
            rw (is-sounding n (fewer n l))
            (given-sample (later n (new_oscillator hz rate w)) (after less_one n (duration_of ms rate)) (enough-after n (duration_of ms rate) (lasting ms rate (suc n) m r l)));
      }
    where
      fewer : (n : ℕ) → Lasts ms rate (suc n) → Lasts ms rate n
      fewer n (inl e) = inl e
      fewer n (inr k) = inr (omega arith)
