-- A source that counts its samples down: n requests at once. Assumes nothing.
use Rattle.std.proofs.Common.{◌≡◌, ℕ, zero, suc, ◌-◌, ◌<◌, ◌≤◌, min, Bool, true, false, cond, eqb, ltb, List, [], ◌∷◌, length, ℤ, sym, refl, ap, ◌∙◌, arith, ltb-false, ltb-true, eq-eqb, ne_eqb, eqb-true}
use native.Mathlib.Nat.{min-eq_left, min-eq_right}
use borrow.Author.Tests.{eqb-false}
use Rattle.laws.specs.Runs.{after, given}
use Rattle.fixed.specs.Answers.{heard, Filled}
use Rattle.std.specs.Prelude.{Option, Some, None}
use Rattle.tone.specs.Blocks.{Waved, given_by, less_by}
use Rattle.tone.specs.Duration.{forever, less_one}
use Rattle.laws.proofs.Stores.{length-cells, sets-front}
use Rattle.tone.proofs.Loops.{waves}

-- ---- the count
less-finite : (left n : ℕ) → left < forever → less_by left n ≡ left - n
unfolding less_by
less-finite left n h = rw (ne_eqb left forever (λ e. omega arith))

one-finite : (left : ℕ) → left < forever → less_one left ≡ left - 1
unfolding less_one
one-finite left h = rw (ne_eqb left forever (λ e. omega arith))

less-suc : (left : ℕ) → suc left < forever → less_one (suc left) ≡ left
less-suc left h = rw (one-finite (suc left) h) (omega arith)

forever-stays : (n : ℕ) → after less_one n forever ≡ forever
unfolding after less_one
forever-stays zero = refl
forever-stays (suc n) = forever-stays n

finite-run : (n left : ℕ) → left < forever → after less_one n left ≡ left - n
unfolding after
finite-run zero left h = omega arith
finite-run (suc n) left h = rw (one-finite left h, finite-run n (left - 1) (omega arith)) (omega arith)

-- one fewer, n times
pub less-run : (n left : ℕ) → left ≤ forever → after less_one n left ≡ less_by left n
unfolding less_by
less-run n left h = by-test (eqb left forever) refl
  where
    by-test : (t : Bool) → eqb left forever ≡ t → after less_one n left ≡ cond t forever (left - n)
    by-test true e = rw (eqb-true left forever e) (forever-stays n)
    by-test false e = finite-run n left (let d = eqb-false left forever e in omega arith)

less-room : (n left : ℕ) → suc n ≤ left → n ≤ less_one left
unfolding less_one
less-room n left h = by-test (eqb left forever) refl
  where
    by-test : (t : Bool) → eqb left forever ≡ t → n ≤ cond t forever (left - 1)
    by-test true e = let q = eqb-true left forever e in omega arith
    by-test false e = omega arith

-- a block is far shorter than what stands for "never ends"
given-few : (left n : ℕ) → n < forever → given_by left n ≡ min left n
unfolding given_by
given-few left n h = by-test (eqb left forever) refl
  where
    by-test : (t : Bool) → eqb left forever ≡ t → cond t n (min left n) ≡ min left n
    by-test true e = let q = eqb-true left forever e in sym (min-eq_right (omega arith))
    by-test false e = refl

pub given-most : (left n : ℕ) → given_by left n ≤ n
unfolding given_by
given-most left n = by-test (eqb left forever)
  where
    by-test : (t : Bool) → cond t n (min left n) ≤ n
    by-test true = omega arith
    by-test false = omega arith

-- ---- requests
-- a source at a phase, with so many samples left, sounding or not: what a request makes of it, and what it gives
pub record Counted {P S : Type 0} (move : P → P) (wave : P → ℤ) (at : P → ℕ → Bool → S) (step : S → S) (gives : S → Option ℤ) (active : S → Bool) : Type 0 where
  pub moves : (p : P) (left : ℕ) → 0 < left → step (at p left true) ≡ at (move p) (less_one left) true
  pub sample : (p : P) (left : ℕ) → 0 < left → gives (at p left true) ≡ Some (wave p)
  pub ends : (p : P) → step (at p 0 true) ≡ at p 0 false
  pub end : (p : P) → gives (at p 0 true) ≡ None
  pub rests : (p : P) (left : ℕ) → step (at p left false) ≡ at p left false
  pub none : (p : P) (left : ℕ) → gives (at p left false) ≡ None
  pub flag : (p : P) (left : ℕ) (a : Bool) → active (at p left a) ≡ a

abbrev pub run : {S : Type 0} → (S → S) → (S → Option ℤ) → ℕ → S → List (Option ℤ)
run step gives n s = given step (λ s. gives s ∷ []) n s

-- n requests at once: the source after them, and the cells
pub record Block {S : Type 0} (step : S → S) (gives : S → Option ℤ) (s : S) (n : ℕ) (cells : List ℤ) (next : S) (count : ℕ) (filled : List ℤ) : Type 0 where
  pub same : next ≡ after step n s
  pub given : Filled (run step gives n s) cells count filled

module _ {P S : Type 0} {move : P → P} {wave : P → ℤ} {at : P → ℕ → Bool → S} {step : S → S} {gives : S → Option ℤ} {active : S → Bool} (c : Counted move wave at step gives active) where
  pub resting : (n : ℕ) (p : P) (left : ℕ) → after step n (at p left false) ≡ at p left false
  unfolding after
  resting zero p left = refl
  resting (suc n) p left = rw (c.rests p left) (resting n p left)

  pub silent : (n : ℕ) (p : P) (left : ℕ) → heard (run step gives n (at p left false)) ≡ []
  unfolding given heard
  silent zero p left = refl
  silent (suc n) p left = rw (c.none p left, c.rests p left) (silent n p left)

  playing : (n : ℕ) (p : P) (left : ℕ) → n ≤ left → after step n (at p left true) ≡ at (after move n p) (after less_one n left) true
  unfolding after
  playing zero p left h = refl
  playing (suc n) p left h = rw (c.moves p left (omega arith)) (playing n (move p) (less_one left) (less-room n left h))

  played : (n : ℕ) (p : P) (left : ℕ) → n ≤ left → heard (run step gives n (at p left true)) ≡ waves move wave n p
  unfolding given heard
  played zero p left h = refl
  played (suc n) p left h =
      rw (c.sample p left (omega arith), c.moves p left (omega arith)) (ap (λ (l : List ℤ). wave p ∷ l) (played n (move p) (less_one left) (less-room n left h)))

  ending : (n : ℕ) (p : P) (left : ℕ) → left < n → left < forever → after step n (at p left true) ≡ at (after move left p) 0 false
  unfolding after
  ending zero p left h k = absurd (omega arith)
  ending (suc n) p zero h k = rw (c.ends p) (resting n p 0)
  ending (suc n) p (suc left) h k =
      rw (c.moves p (suc left) (omega arith), less-suc left k) (ending n (move p) left (omega arith) (omega arith))

  ended : (n : ℕ) (p : P) (left : ℕ) → left < n → left < forever → heard (run step gives n (at p left true)) ≡ waves move wave left p
  unfolding given heard
  ended zero p left h k = absurd (omega arith)
  ended (suc n) p zero h k = rw (c.end p, c.ends p) (silent n p 0)
  ended (suc n) p (suc left) h k =
      rw (c.sample p (suc left) (omega arith), c.moves p (suc left) (omega arith), less-suc left k)
      (ap (λ (l : List ℤ). wave p ∷ l) (ended n (move p) left (omega arith) (omega arith)))

  -- a block: where n are asked for, the first `min left n` are given
  module _ (n : ℕ) (p : P) (left : ℕ) (short : n < forever) where
    block-after : left ≤ forever → after step n (at p left true) ≡ at (after move (min left n) p) (less_by left (min left n)) (eqb (min left n) n)
    block-after l = by-test (ltb left n) refl
      where
        by-test : (t : Bool) → ltb left n ≡ t → after step n (at p left true) ≡ at (after move (min left n) p) (less_by left (min left n)) (eqb (min left n) n)
        by-test true e =
            let h = ltb-true left n e in
            let m : min left n ≡ left = min-eq_left (omega arith) in
            let z : left - left ≡ 0 = omega arith in
            rw (m, ne_eqb left n (λ q. omega arith), less-finite left left (omega arith), z) (ending n p left h (omega arith))
        by-test false e =
            let h = ltb-false left n e in
            let m : min left n ≡ n = min-eq_right h in
            rw (m, eq-eqb n n refl, ← less-run n left l) (playing n p left h)

    block-heard : heard (run step gives n (at p left true)) ≡ waves move wave (min left n) p
    block-heard = by-test (ltb left n) refl
      where
        by-test : (t : Bool) → ltb left n ≡ t → heard (run step gives n (at p left true)) ≡ waves move wave (min left n) p
        by-test true e =
            let h = ltb-true left n e in
            let m : min left n ≡ left = min-eq_left (omega arith) in
            rw m (ended n p left h (omega arith))
        by-test false e =
            let h = ltb-false left n e in
            let m : min left n ≡ n = min-eq_right h in
            rw m (played n p left h)

    -- what the code works out, where its oscillator sounds
    pub block : {s : S} {count rest : ℕ} {cells filled : List ℤ} {next : P} → s ≡ at p left true → left ≤ forever → n ≤ length cells
        → count ≡ given_by left n → rest ≡ less_by left count → Waved move wave count p cells next filled
        → Block step gives s n cells (at next rest (eqb count n)) count filled
    block {cells = cells} e l h g r w =
        let k = g ∙ given-few left n short in
        let d : length (waves move wave (min left n) p) ≡ min left n = length-cells move wave (min left n) p in
        let v = rw k at w in
        record {
          same = rw (e, v.moved, r, k) (sym (block-after l));
          given =
              record {
                count = rw (e, block-heard, k, d);
                taken = rw (e, block-heard, d) (v.taken ∙ sets-front cells (waves move wave (min left n) p) (min left n) d (omega arith));
              };
        }

  -- and where it does not
  pub block-rest : {s : S} (n : ℕ) (p : P) (left : ℕ) (cells : List ℤ) → s ≡ at p left false → Block step gives s n cells s 0 cells
  block-rest n p left cells e =
      record { same = rw (e, resting n p left); given = rw e (record { count = rw (silent n p left); taken = rw (silent n p left) }) }
