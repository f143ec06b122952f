-- A run of steps with their texts, as a loop goes through it: i of the n steps are done. Assumes nothing.
use mathlib.Core.Path.{◌≡◌}
use mathlib.Core.List.{List, [], ◌++◌}
use Prim.Native.Nat.{ℕ, suc, ◌+◌, ◌-◌, ◌≤◌, ◌<◌}
use native.Mathlib.Omega.{arith}
use Rattle.hex_digits.specs.Hex.{Laid}
use Rattle.hex_digits.proofs.Texts.{Left, left-start, left-turn, left_end}
use Rattle.replay_leaves.specs.Runs.{stepped, texts}

module _ {S : Type 0} (step : S → S) where
  -- the first step by itself, or none
  pub stepped-one : (n i : ℕ) (s : S) → i < n → stepped step (n - i) s ≡ stepped step (n - (i + 1)) (step s)
  unfolding stepped
  stepped-one n i s h = let e : n - i ≡ suc (n - (i + 1)) = omega arith in rw e

  pub stepped-none : (n i : ℕ) (s : S) → n ≤ i → stepped step (n - i) s ≡ s
  unfolding stepped
  stepped-none n i s h = let e : n - i ≡ 0 = omega arith in rw e

module _ {S : Type 0} (step : S → S) (text : S → List ℕ) where
  texts-one : (n i : ℕ) (s : S) → i < n → texts step text (n - i) s ≡ text (step s) ++ texts step text (n - (i + 1)) (step s)
  unfolding texts
  texts-one n i s h = let e : n - i ≡ suc (n - (i + 1)) = omega arith in rw e

  texts-none : (n i : ℕ) (s : S) → n ≤ i → texts step text (n - i) s ≡ []
  unfolding texts
  texts-none n i s h = let e : n - i ≡ 0 = omega arith in rw e

  -- what is left to do, from where the loop stands, is what there was to do
  pub record Going (before : List ℕ) (at n : ℕ) (first : S) (after : List ℕ) (next i : ℕ) (s : S) : Type 0 where
    pub laid : Left before at (texts step text n first) after next (texts step text (n - i) s)
    pub same : stepped step (n - i) s ≡ stepped step n first

  pub going_start : (out : List ℕ) (at n : ℕ) (s : S) → Going out at n s out at 0 s
  going_start out at n s = let e : n - 0 ≡ n = omega arith in record { laid = rw e (left-start out at (texts step text n s)); same = rw e }

  pub going-turn : {before after new : List ℕ} {at n next place i : ℕ} {first s r : S} → i < n → r ≡ step s → Going before at n first after next i s → Laid after next (text r) new place → Going before at n first new place (i + 1) r
  going-turn {n = n} {i = i} {s = s} {r = r} h e g w =
      record {
        laid = rw e (left-turn (rw (texts-one n i s h) at g.laid) (rw e at w));
        same = rw (e, ← stepped-one step n i s h) g.same;
      }

  pub going_end : {before after : List ℕ} {at n next i : ℕ} {first s : S} → n ≤ i → Going before at n first after next i s → Laid before at (texts step text n first) after next
  going_end {n = n} {i = i} {s = s} h g = left_end (rw (texts-none n i s h) at g.laid)
