-- Many ticks: what they keep, and those that end no phase. Assumes nothing.
use Prim.Native.Nat.{ℕ, zero, suc, ◌+◌, ◌<◌}
use native.Mathlib.Omega.{arith}
use mathlib.Core.Path.{◌≡◌, refl, ap, ◌∙◌}
use mathlib.Core.Bool.{false}
use mathlib.Core.List.{List, ◌∷◌}
use lib.ListN.{replicate}
use Rattle.laws.specs.Runs.{after, given}
use Rattle.envelope.specs.declared.AdsrSpec.{AdsrSpec}
use Rattle.envelope.specs.declared.Adsr.{Adsr}
use Rattle.envelope.specs.declared.AdsrPhase.{AdsrPhase}
use Rattle.envelope.specs.Adsrs.{Valid, ticked, ticked_in, active, advanced_toward, or_at_end}
use Rattle.envelope.specs.Blocks.{level_after, level_toward}
use Rattle.envelope.proofs.Laws.{valid-ticked, ticked-inactive, goes_on}

-- ---- what ticks keep
pub valid-ticks : (n : ℕ) {a : Adsr} → Valid a → Valid (after ticked n a)
unfolding after
valid-ticks zero h = h
valid-ticks (suc n) h = valid-ticks n (valid-ticked h)

-- an envelope that stands still
pub still_after : (n : ℕ) {a : Adsr} → ticked a ≡ a → after ticked n a ≡ a
unfolding after
still_after zero e = refl
still_after (suc n) e = rw e (still_after n e)

pub still-given : (n : ℕ) (a : Adsr) → ticked a ≡ a → given ticked level_after n a ≡ replicate n a.level_q8
unfolding given
still-given zero a e = refl
still-given (suc n) a e = rw e (ap (λ (l : List ℕ). a.level_q8 ∷ l) (still-given n a e))

-- "Release from idle does nothing", and no more do ticks
pub idle-ticks : (n : ℕ) {a : Adsr} → active a ≡ false → after ticked n a ≡ a
idle-ticks n e = still_after n (ticked-inactive e)

-- ---- ticks that end no phase
module _ (t : ℕ) (a : Adsr) where
  phase-kept : (advanced_toward t a).phase ≡ a.phase
  unfolding advanced_toward
  phase-kept = refl

  spec-kept : (advanced_toward t a).spec ≡ a.spec
  unfolding advanced_toward
  spec-kept = refl

  counted : (n : ℕ) → a.samples_in_phase + suc n < a.phase_length_samples →
      (advanced_toward t a).samples_in_phase + n < (advanced_toward t a).phase_length_samples
  unfolding advanced_toward
  counted n h = omega arith

module _ (p : AdsrPhase) (s : AdsrSpec) (t : ℕ) (next : Adsr → Adsr)
    (form : (a : Adsr) → a.spec ≡ s → ticked_in p a ≡ or_at_end (advanced_toward t a) (next (advanced_toward t a))) where
  one-within : (a : Adsr) → a.phase ≡ p → a.spec ≡ s → (advanced_toward t a).samples_in_phase < (advanced_toward t a).phase_length_samples →
      advanced_toward t a ≡ ticked a
  one-within a e f h = goes_on p a t next (form a f) e refl h

  pub after-within : (n : ℕ) (a : Adsr) → a.phase ≡ p → a.spec ≡ s → a.samples_in_phase + n < a.phase_length_samples →
      after (advanced_toward t) n a ≡ after ticked n a
  unfolding after
  after-within zero a e f h = refl
  after-within (suc n) a e f h =
      let k = counted t a n h in
      after-within n (advanced_toward t a) (phase-kept t a ∙ e) (spec-kept t a ∙ f) k ∙ ap (λ (x : Adsr). after ticked n x) (one-within a e f (omega arith))

  pub given-within : (n : ℕ) (a : Adsr) → a.phase ≡ p → a.spec ≡ s → a.samples_in_phase + n < a.phase_length_samples →
      given (advanced_toward t) (level_toward t) n a ≡ given ticked level_after n a
  unfolding given
  given-within zero a e f h = refl
  given-within (suc n) a e f h =
      let k = counted t a n h in
      rw (given-within n (advanced_toward t a) (phase-kept t a ∙ e) (spec-kept t a ∙ f) k, one-within a e f (omega arith))
