-- A length within one tenth of its nominal one is one from nine to eleven tenths. Assumes nothing.
use Prim.Native.Nat.{ℕ, ◌*◌, ◌-◌, ◌/◌, ◌≤◌, ◌<◌}
use native.Mathlib.Omega.{arith}
use mathlib.Core.Path.{◌≡◌, refl, sym, ◌∙◌, ap}
use mathlib.Core.Bool.{Bool, true, false}
use mathlib.Core.Logic.{◌⊎◌, inl, inr}
use borrow.Author.Tests.{ltb-true, ltb-false, leb-true, leb-false, le-leb, lt-leb}
use lib.Dec.{ltb, leb}
use lib.IntN.{pos, nat_abs, ◌-ℤ◌}
use Rattle.laws.proofs.Signed.{pos-sub, sub-neg, abs_neg}
use Rattle.evacuation.specs.Pattern.{within_tenth}

-- |a − b|
apart : (a b : ℕ) → ((b ≤ a) × (nat_abs (pos a -ℤ pos b) ≡ a - b)) ⊎ ((a < b) × (nat_abs (pos a -ℤ pos b) ≡ b - a))
apart a b = by-test (ltb a b) refl
  where
    by-test : (t : Bool) → ltb a b ≡ t → ((b ≤ a) × (nat_abs (pos a -ℤ pos b) ≡ a - b)) ⊎ ((a < b) × (nat_abs (pos a -ℤ pos b) ≡ b - a))
    by-test true e =
        let h : a < b = ltb-true a b e in
        let k : a ≤ b = omega arith in
        inr (h, ap nat_abs (sub-neg a b k) ∙ abs_neg (pos (b - a)))
    by-test false e = let h : b ≤ a = ltb-false a b e in inl (h, ap nat_abs (pos-sub a b h))

module _ (ms rate samples : ℕ) where
  -- ten times how far the samples are from the nominal length, in thousandths
  abbrev off : ℕ
  off = 10 * nat_abs (pos (1000 * samples) -ℤ pos (ms * rate))

  off-yes : 9 * (ms * rate) ≤ 10000 * samples → 10000 * samples ≤ 11 * (ms * rate) → off ≤ ms * rate
  off-yes l h = elim (apart (1000 * samples) (ms * rate)) [ inl d ↦ omega (arith, d.0, d.1) | inr d ↦ omega (arith, d.0, d.1) ]

  off-low : 10000 * samples < 9 * (ms * rate) → ms * rate < off
  off-low l = elim (apart (1000 * samples) (ms * rate)) [ inl d ↦ omega (arith, d.0, d.1) | inr d ↦ omega (arith, d.0, d.1) ]

  off-high : 11 * (ms * rate) < 10000 * samples → ms * rate < off
  off-high l = elim (apart (1000 * samples) (ms * rate)) [ inl d ↦ omega (arith, d.0, d.1) | inr d ↦ omega (arith, d.0, d.1) ]

  pub within-yes : 9 * (ms * rate) ≤ 10000 * samples → 10000 * samples ≤ 11 * (ms * rate) → within_tenth ms rate samples ≡ true
  unfolding within_tenth
  within-yes l h = le-leb off (ms * rate) (off-yes l h)

  pub within_low : 10000 * samples < 9 * (ms * rate) → within_tenth ms rate samples ≡ false
  unfolding within_tenth
  within_low l = lt-leb off (ms * rate) (off-low l)

  pub within-high : 11 * (ms * rate) < 10000 * samples → within_tenth ms rate samples ≡ false
  unfolding within_tenth
  within-high l = lt-leb off (ms * rate) (off-high l)

  pub within-told : within_tenth ms rate samples ≡ true → (9 * (ms * rate) ≤ 10000 * samples) × (10000 * samples ≤ 11 * (ms * rate))
  unfolding within_tenth
  within-told e =
      let h : off ≤ ms * rate = leb-true off (ms * rate) e in
      elim (apart (1000 * samples) (ms * rate)) [ inl d ↦ (omega (arith, d.0, d.1), omega (arith, d.0, d.1)) | inr d ↦ (omega (arith, d.0, d.1), omega (arith, d.0, d.1)) ]

  -- the two tests of the code, the upper bound first
  pub within-above : 11 * (ms * rate) / 10000 < samples → within_tenth ms rate samples ≡ false
  within-above h = within-high (omega arith)

  pub within-test : samples ≤ 11 * (ms * rate) / 10000 → leb (9 * (ms * rate)) (10000 * samples) ≡ within_tenth ms rate samples
  within-test h = by-test (leb (9 * (ms * rate)) (10000 * samples)) refl
    where
      by-test : (t : Bool) → leb (9 * (ms * rate)) (10000 * samples) ≡ t → t ≡ within_tenth ms rate samples
      by-test true e = sym (within-yes (leb-true _ _ e) (omega arith))
      by-test false e = sym (within_low (leb-false _ _ e))
