-- One pass over a recording, with the phase that is heard and how long it has been, is the definition over runs. Assumes nothing.
use Prim.Native.Nat.{ℕ, suc, ◌+◌, ◌≤◌, ◌<◌}
use native.Mathlib.Numerals.{add-one}
use native.Mathlib.Omega.{arith}
use mathlib.Core.Path.{◌≡◌, refl, sym, ap, ◌∙◌}
use mathlib.Core.Bool.{Bool, true, false, cond, ◌&&◌, and-false}
use mathlib.Core.List.{List, [], ◌∷◌}
use borrow.Author.Tests.{eq-eqb, ne_eqb, eqb-true, eqb-false, le-leb, lt-leb, lt-ltb, leb-true, leb-false}
use lib.Dec.{eqb, leb}
use lib.ListN.{length, get_or, drop}
use lib.Seq.{drop-cons, drop-length}
use Rattle.evacuation.specs.Pattern.{phases, within_tenth}
use Rattle.evacuation.specs.Reader.{Run, before, runs_of, in_order, whole_cycles}
use Rattle.evacuation.specs.Places.{next_phase}
use Rattle.evacuation.proofs.Tenths.{within_low}
use Rattle.evacuation.proofs.Cycles.{next-below}
use Rattle.evacuation.proofs.Runs.{phase_byte, split-before, befores, befores-none, befores-other, befores-same, other, not-above, order-next, byte_next, is_last, phase-is, wrong_first}

-- after n bytes of phase k: what a pass over the rest says
unfoldable pub goes_on : ℕ → ℕ → ℕ → List ℕ → Bool
goes_on rate k n [] = within_tenth (get_or phases k 0) rate n && eqb k 5
goes_on rate k n (b ∷ l) =
    cond (eqb b (phase_byte k))
    (goes_on rate k (n + 1) l)
    (within_tenth (get_or phases k 0) rate n && (leb b 1 && goes_on rate (next_phase k) 1 l))

-- ---- its steps
module _ (rate k n : ℕ) where
  pub goes-more : (b : ℕ) (l : List ℕ) → b ≡ phase_byte k → goes_on rate k n (b ∷ l) ≡ goes_on rate k (n + 1) l
  unfolding goes_on
  goes-more b l e = rw (eq-eqb b (phase_byte k) e)

  pub goes_above : (b : ℕ) (l : List ℕ) → (b ≡ phase_byte k → ⊥) → 1 < b → goes_on rate k n (b ∷ l) ≡ false
  unfolding goes_on
  goes_above b l d h = rw (ne_eqb b (phase_byte k) d, lt-leb b 1 h, and-false)

  pub goes-off : (b : ℕ) (l : List ℕ) → (b ≡ phase_byte k → ⊥) → within_tenth (get_or phases k 0) rate n ≡ false → goes_on rate k n (b ∷ l) ≡ false
  unfolding goes_on
  goes-off b l d w = rw (ne_eqb b (phase_byte k) d, w)

  pub goes-next : (b : ℕ) (l : List ℕ) → (b ≡ phase_byte k → ⊥) → b ≤ 1 → within_tenth (get_or phases k 0) rate n ≡ true →
      goes_on rate k n (b ∷ l) ≡ goes_on rate (next_phase k) 1 l
  unfolding goes_on
  goes-next b l d h w = rw (ne_eqb b (phase_byte k) d, w, le-leb b 1 h)

  pub goes_end : goes_on rate k n [] ≡ (within_tenth (get_or phases k 0) rate n && eqb k 5)
  unfolding goes_on
  goes_end = refl

-- ---- the runs of what was heard and what comes
-- where another byte comes, the phase's run has ended
turn : (rate k b : ℕ) (l : List ℕ) → eqb b (phase_byte k) ≡ false →
    goes_on rate (next_phase k) 1 l ≡ in_order rate (next_phase k) (before (phase_byte (next_phase k)) (runs_of l)) →
    (leb b 1 && goes_on rate (next_phase k) 1 l) ≡ in_order rate (suc k) (before b (runs_of l))
turn rate k b l e later = by-test (leb b 1) refl
  where
    by-test : (t : Bool) → leb b 1 ≡ t → (t && goes_on rate (next_phase k) 1 l) ≡ in_order rate (suc k) (before b (runs_of l))
    by-test true h =
        let s : b ≡ phase_byte (next_phase k) = other b k e (leb-true b 1 h) ∙ sym (byte_next k) in
        later ∙ ap (λ (c : ℕ). in_order rate (next_phase k) (before c (runs_of l))) (sym s) ∙ sym (order-next rate k (before b (runs_of l)))
    by-test false h = sym (wrong_first rate (suc k) b (runs_of l) (not-above b (suc k) (leb-false b 1 h)))

ended : (rate k b n : ℕ) (rs : List Run) → k < 6 → eqb b (phase_byte k) ≡ false →
    in_order rate k (befores (phase_byte k) (suc n) (before b rs)) ≡ (within_tenth (get_or phases k 0) rate (suc n) && in_order rate (suc k) (before b rs))
unfolding in_order
ended rate k b n rs h e =
    let s = split-before b rs in
    let d : eqb (phase_byte k) b ≡ false = ne_eqb (phase_byte k) b (λ p. eqb-false b (phase_byte k) e (sym p)) in
    rw (s.2, befores-other (phase_byte k) b n s.0 s.1 d, phase-is rate k (suc n) h)

pub goes-runs : (rate k n : ℕ) (l : List ℕ) → k < 6 → goes_on rate k (suc n) l ≡ in_order rate k (befores (phase_byte k) (suc n) (runs_of l))
unfolding goes_on in_order runs_of
goes-runs rate k n [] h = sym (rw (befores-none (phase_byte k) n, phase-is rate k (suc n) h, is_last k h))
goes-runs rate k n (b ∷ l) h =
    by-test (eqb b (phase_byte k)) refl (goes-runs rate k (suc n) l h) (goes-runs rate (next_phase k) 0 l (next-below k h))
  where
    by-test : (t : Bool) → eqb b (phase_byte k) ≡ t →
        goes_on rate k (suc (suc n)) l ≡ in_order rate k (befores (phase_byte k) (suc (suc n)) (runs_of l)) →
        goes_on rate (next_phase k) 1 l ≡ in_order rate (next_phase k) (before (phase_byte (next_phase k)) (runs_of l)) →
        cond t (goes_on rate k (suc n + 1) l) (within_tenth (get_or phases k 0) rate (suc n) && (leb b 1 && goes_on rate (next_phase k) 1 l))
        ≡ in_order rate k (befores (phase_byte k) (suc n) (before b (runs_of l)))
    by-test true e more later = rw (eqb-true b (phase_byte k) e, befores-same (phase_byte k) (suc n) (runs_of l), add-one) more
    by-test false e more later =
        ap (λ (t : Bool). within_tenth (get_or phases k 0) rate (suc n) && t) (turn rate k b l e later)
        ∙ sym (ended rate k b n (runs_of l) h e)

-- the pass from the start on, with nothing heard of the first phase
pub reads : (rate : ℕ) → 0 < rate → (l : List ℕ) → goes_on rate 0 0 l ≡ whole_cycles rate l
unfolding goes_on whole_cycles runs_of
reads rate r [] = and-false (within_tenth 500 rate 0)
reads rate r (b ∷ l) = by-test (eqb b 1) refl ∙ sym (rw (lt-ltb 0 (suc (length l)) (omega arith)))
  where
    none : within_tenth 500 rate 0 ≡ false
    none = within_low 500 rate 0 (omega arith)

    by-test : (t : Bool) → eqb b 1 ≡ t →
        cond t (goes_on rate 0 1 l) (within_tenth 500 rate 0 && (leb b 1 && goes_on rate 1 1 l)) ≡ in_order rate 0 (before b (runs_of l))
    by-test true e = rw (eqb-true b 1 e) (goes-runs rate 0 0 l (omega arith))
    by-test false e = rw none (sym (wrong_first rate 0 b (runs_of l) e))

-- ---- a pass over a list, at place i: n bytes of phase k were heard last
pub record Hears (rate : ℕ) (l : List ℕ) (k n i : ℕ) : Type 0 where
  pub phase : k < 6
  pub short : n ≤ i
  pub rest : goes_on rate k n (drop i l) ≡ whole_cycles rate l

pub hears-none : (rate : ℕ) → 0 < rate → (l : List ℕ) → Hears rate l 0 0 0
hears-none rate r l = record { phase = omega arith; short = omega arith; rest = reads rate r l }

module _ {rate : ℕ} {l : List ℕ} {k n i : ℕ} (h : Hears rate l k n i) where
  ahead : i < length l → goes_on rate k n (get_or l i 0 ∷ drop (i + 1) l) ≡ whole_cycles rate l
  ahead b = rw (add-one, ← drop-cons l i 0 b) h.rest

  pub hears-more : i < length l → get_or l i 0 ≡ phase_byte k → Hears rate l k (n + 1) (i + 1)
  hears-more b e =
      record { phase = h.phase; short = let s = h.short in omega arith; rest = sym (goes-more rate k n (get_or l i 0) (drop (i + 1) l) e) ∙ ahead b }

  pub hears-next : i < length l → (get_or l i 0 ≡ phase_byte k → ⊥) → get_or l i 0 ≤ 1 → within_tenth (get_or phases k 0) rate n ≡ true →
      Hears rate l (next_phase k) 1 (i + 1)
  hears-next b d u w =
      record {
        phase = next-below k h.phase;
        short = omega arith;
        rest = sym (goes-next rate k n (get_or l i 0) (drop (i + 1) l) d u w) ∙ ahead b;
      }

  pub hears-above : i < length l → (get_or l i 0 ≡ phase_byte k → ⊥) → 1 < get_or l i 0 → false ≡ whole_cycles rate l
  hears-above b d u = sym (goes_above rate k n (get_or l i 0) (drop (i + 1) l) d u) ∙ ahead b

  pub hears-off : i < length l → (get_or l i 0 ≡ phase_byte k → ⊥) → within_tenth (get_or phases k 0) rate n ≡ false → false ≡ whole_cycles rate l
  hears-off b d w = sym (goes-off rate k n (get_or l i 0) (drop (i + 1) l) d w) ∙ ahead b

  pub hears-end : i ≡ length l → (within_tenth (get_or phases k 0) rate n && eqb k 5) ≡ whole_cycles rate l
  hears-end e = sym (goes_end rate k n) ∙ ap (goes_on rate k n) (sym (drop-length l) ∙ ap (λ (j : ℕ). drop j l) (sym e)) ∙ h.rest
