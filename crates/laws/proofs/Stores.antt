-- Steps of which each gives one cell, stored as they come. Assumes nothing.
use Prim.Native.Nat.{ℕ, zero, suc, ◌+◌, ◌≤◌}
use native.Mathlib.Nat.{zero-add}
use native.Mathlib.Omega.{arith}
use mathlib.Core.Path.{◌≡◌, refl, ap, ◌∙◌}
use mathlib.Core.List.{List, [], ◌∷◌, ◌++◌}
use lib.ListN.{length, set, drop, replicate, length-replicate, replicate-append-replicate}
use lib.Seq.{sets, sets-eq}
use Rattle.laws.specs.Runs.{after, given}
use Rattle.laws.proofs.Runs.{after-parts, given-parts}
use Rattle.laws.proofs.Lists.{sets-append}

module _ {State A : Type 0} (step : State → State) (gives : State → A) where
  abbrev pub cells_of : ℕ → State → List A
  cells_of n s = given step (λ (s : State). gives s ∷ []) n s

  pub length-cells : (n : ℕ) (s : State) → length (cells_of n s) ≡ n
  unfolding given
  length-cells zero s = refl
  length-cells (suc n) s = ap suc (length-cells n (step s))

  -- n steps from s, stored from `at` on
  pub record Wrote (s : State) (before : List A) (at n : ℕ) (r : State) (cells : List A) : Type 0 where
    pub state : r ≡ after step n s
    pub stored : cells ≡ sets before at (cells_of n s)

  one_cell : (at : ℕ) (s : State) (cells : List A) → Wrote s cells at 1 (step s) (set cells at (gives s))
  unfolding after given
  one_cell at s cells = record { state = refl; stored = refl }

  module _ {s : State} {before : List A} {at : ℕ} where
    pub wrote_none : Wrote s before at 0 s before
    unfolding after given
    wrote_none = record { state = refl; stored = refl }

    -- more of them, stored behind
    pub wrote-more : {n m : ℕ} {r q : State} {cells later : List A} → Wrote s before at n r cells → Wrote r cells (at + n) m q later →
        Wrote s before at (n + m) q later
    wrote-more {n} {m} {r} {q} {cells} {later} w v =
        record {
          state = rw (after-parts step n m s, ← w.state) v.state;
          stored = rw (given-parts step (λ (s : State). gives s ∷ []) n m s, ← w.state, ← sets-append before at (cells_of n s) (cells_of m r), ← w.stored, length-cells n s) v.stored;
        }

    pub wrote_one : {n : ℕ} {r : State} {cells : List A} → Wrote s before at n r cells → Wrote s before at (n + 1) (step r) (set cells (at + n) (gives r))
    wrote_one {n} {r} {cells} w = wrote-more w (one_cell (at + n) r cells)

  -- the same from the front on
  pub front-one : {s : State} {before : List A} {n : ℕ} {r : State} {cells : List A} → Wrote s before 0 n r cells →
      Wrote s before 0 (n + 1) (step r) (set cells n (gives r))
  front-one {n = n} w = rw zero-add at (wrote_one w)

module _ {A : Type 0} where
  -- one more of the same
  pub held_one : (before : List A) (at n : ℕ) (x : A) {cells : List A} → cells ≡ sets before at (replicate n x) →
      set cells (at + n) x ≡ sets before at (replicate (n + 1) x)
  held_one before at n x e =
      rw (← replicate-append-replicate n 1 x, ← sets-append before at (replicate n x) (replicate 1 x), ← e, length-replicate n x)

  -- what is stored from the front on
  pub sets-front : (before xs : List A) (n : ℕ) → length xs ≡ n → n ≤ length before → sets before 0 xs ≡ xs ++ drop n before
  sets-front before xs n e h = sets-eq xs before 0 (omega arith) ∙ rw (zero-add, e)
