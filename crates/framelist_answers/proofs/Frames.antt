-- A run of steps with what they give, as a loop goes through it: i of the n steps are done. Assumes nothing.
use mathlib.Core.Path.{◌≡◌}
use mathlib.Core.List.{List, [], ◌++◌}
use Prim.Native.Nat.{ℕ, suc, ◌+◌, ◌-◌, ◌≤◌, ◌<◌}
use native.Mathlib.Omega.{arith}
use Rattle.laws.specs.Runs.{after, given}
use Rattle.hex_digits.specs.Hex.{Laid, Wrote}
use Rattle.hex_digits.proofs.Texts.{Left, left-start, left-turn, left_end, whole}

module _ {S : Type 0} (step : S → S) (gives : S → List ℕ) where
  -- the first step by itself, or none
  after_one : (n i : ℕ) (s : S) → i < n → after step (n - i) s ≡ after step (n - (i + 1)) (step s)
  unfolding after
  after_one n i s h = let e : n - i ≡ suc (n - (i + 1)) = omega arith in rw e

  after_none : (n i : ℕ) (s : S) → n ≤ i → after step (n - i) s ≡ s
  unfolding after
  after_none n i s h = let e : n - i ≡ 0 = omega arith in rw e

  given-one : (n i : ℕ) (s : S) → i < n → given step gives (n - i) s ≡ gives s ++ given step gives (n - (i + 1)) (step s)
  unfolding given
  given-one n i s h = let e : n - i ≡ suc (n - (i + 1)) = omega arith in rw e

  given-none : (n i : ℕ) (s : S) → n ≤ i → given step gives (n - i) s ≡ []
  unfolding given
  given-none n i s h = let e : n - i ≡ 0 = omega arith in rw e

  -- what is left to do, from where the loop stands, is what there was to do
  pub record Going (before : List ℕ) (n : ℕ) (first : S) (now : List ℕ) (next i : ℕ) (s : S) : Type 0 where
    pub laid : Left before 0 (given step gives n first) now next (given step gives (n - i) s)
    pub same : after step (n - i) s ≡ after step n first

  pub going_start : (out : List ℕ) (n : ℕ) (s : S) → Going out n s out 0 0 s
  going_start out n s = let e : n - 0 ≡ n = omega arith in record { laid = rw e (left-start out 0 (given step gives n s)); same = rw e }

  pub going-turn : {before now new : List ℕ} {n next place i : ℕ} {first s r : S} → i < n → r ≡ step s
      → Going before n first now next i s → Laid now next (gives s) new place → Going before n first new place (i + 1) r
  going-turn {n = n} {i = i} {s = s} h e g w =
      record {
        laid = rw e (left-turn (rw (given-one n i s h) at g.laid) w);
        same = rw (e, ← after_one n i s h) g.same;
      }

  pub going_end : {before now : List ℕ} {n next i : ℕ} {first s : S} → n ≤ i → next < 262144
      → Going before n first now next i s → Wrote before 0 (given step gives n first) now next
  going_end {n = n} {i = i} {s = s} h m g = whole (left_end (rw (given-none n i s h) at g.laid)) m

  pub going-same : {before now : List ℕ} {n next i : ℕ} {first s : S} → n ≤ i
      → Going before n first now next i s → s ≡ after step n first
  going-same {n = n} {i = i} {s = s} h g = rw (after_none n i s h) at g.same
