-- A list's runs of equal bytes, and the phases that they are held to. Assumes nothing.
use Prim.Native.Nat.{ℕ, zero, suc, ◌+◌, ◌%◌, ◌≤◌, ◌<◌}
use native.Mathlib.Nat.{add-suc, add-mod_left, mul-add-mod_self_left, mod-eq_of_lt}
use native.Mathlib.Numerals.{add-one}
use native.Mathlib.Omega.{arith}
use mathlib.Core.Path.{◌≡◌, refl, ap, ◌∙◌}
use mathlib.Core.Bool.{Bool, true, false, not, cond}
use mathlib.Core.List.{List, [], ◌∷◌, ◌++◌}
use borrow.Author.Tests.{eq-eqb, ne_eqb, eqb-true, eqb-false}
use lib.Dec.{eqb}
use lib.ListN.{get_or, replicate}
use Rattle.evacuation.specs.Pattern.{phases, is_on, byte_of, within_tenth}
use Rattle.evacuation.specs.Reader.{Run, before, runs_of, ms_of, is_phase, in_order}
use Rattle.evacuation.specs.Places.{next_phase}

abbrev pub one : ℕ → ℕ → Run
one b n = record { byte = b; count = n }

abbrev pub phase_byte : ℕ → ℕ
phase_byte k = byte_of (is_on k)

-- ---- a byte before runs
-- the first of them is then of that byte
pub split-before : (b : ℕ) (rs : List Run) → (n : ℕ) × (t : List Run) × (before b rs ≡ one b n ∷ t)
unfolding before
split-before b [] = (1, [], refl)
split-before b (r ∷ rs) = by-test (eqb b r.byte)
  where
    by-test : (t : Bool) → (n : ℕ) × (q : List Run) × (cond t (one b (suc r.count) ∷ rs) (one b 1 ∷ r ∷ rs) ≡ one b n ∷ q)
    by-test true = (suc r.count, rs, refl)
    by-test false = (1, r ∷ rs, refl)

before_same : (b n : ℕ) (rs : List Run) → before b (one b n ∷ rs) ≡ one b (suc n) ∷ rs
unfolding before
before_same b n rs = rw (eq-eqb b b refl)

before-other : (b a n : ℕ) (rs : List Run) → eqb b a ≡ false → before b (one a n ∷ rs) ≡ one b 1 ∷ one a n ∷ rs
unfolding before
before-other b a n rs e = rw e

-- n equal bytes before runs
abbrev pub befores : ℕ → ℕ → List Run → List Run
befores b zero rs = rs
befores b (suc n) rs = before b (befores b n rs)

pub befores-none : (b n : ℕ) → befores b (suc n) [] ≡ one b (suc n) ∷ []
unfolding before
befores-none b zero = refl
befores-none b (suc n) = ap (before b) (befores-none b n) ∙ before_same b (suc n) []

pub befores-other : (b a n m : ℕ) (rs : List Run) → eqb b a ≡ false → befores b (suc n) (one a m ∷ rs) ≡ one b (suc n) ∷ one a m ∷ rs
befores-other b a zero m rs e = before-other b a m rs e
befores-other b a (suc n) m rs e = ap (before b) (befores-other b a n m rs e) ∙ before_same b (suc n) (one a m ∷ rs)

pub befores-same : (b n : ℕ) (rs : List Run) → befores b n (before b rs) ≡ befores b (suc n) rs
befores-same b zero rs = refl
befores-same b (suc n) rs = ap (before b) (befores-same b n rs)

pub runs-replicate : (b n : ℕ) (l : List ℕ) → runs_of (replicate n b ++ l) ≡ befores b n (runs_of l)
unfolding runs_of
runs-replicate b zero l = refl
runs-replicate b (suc n) l = ap (before b) (runs-replicate b n l)

-- ---- phases, cycle after cycle
pub turns : (k : ℕ) → is_on (suc k) ≡ not (is_on k)
turns k = by-test (eqb (k % 2) 0) refl
  where
    by-test : (t : Bool) → eqb (k % 2) 0 ≡ t → eqb (suc k % 2) 0 ≡ not t
    by-test true e = let h = eqb-true (k % 2) 0 e in ne_eqb (suc k % 2) 0 (λ d. omega arith)
    by-test false e = let h = eqb-false (k % 2) 0 e in eq-eqb (suc k % 2) 0 (omega arith)

pub turned : (k : ℕ) → eqb (phase_byte k) (phase_byte (suc k)) ≡ false
turned k = rw turns (by-test (is_on k))
  where
    by-test : (t : Bool) → eqb (byte_of t) (byte_of (not t)) ≡ false
    by-test true = refl
    by-test false = refl

-- a byte that is not a phase's is the next one's, or above 1
pub other : (b k : ℕ) → eqb b (phase_byte k) ≡ false → b ≤ 1 → b ≡ phase_byte (suc k)
other b k e h = rw turns (by-test (is_on k) e)
  where
    by-test : (t : Bool) → eqb b (byte_of t) ≡ false → b ≡ byte_of (not t)
    by-test true e = let d = eqb-false b 1 e in omega arith
    by-test false e = let d = eqb-false b 0 e in omega arith

pub not-above : (b k : ℕ) → 1 < b → eqb b (phase_byte k) ≡ false
not-above b k h = by-test (is_on k)
  where
    by-test : (t : Bool) → eqb b (byte_of t) ≡ false
    by-test true = ne_eqb b 1 (λ e. omega arith)
    by-test false = ne_eqb b 0 (λ e. omega arith)

on-later : (k : ℕ) → is_on (6 + k) ≡ is_on k
on-later k = rw (mul-add-mod_self_left 2 3 k)

pub byte-later : (k : ℕ) → phase_byte (6 + k) ≡ phase_byte k
byte-later k = ap byte_of (on-later k)

pub ms-later : (k : ℕ) → ms_of (6 + k) ≡ ms_of k
ms-later k = rw add-mod_left

-- a cycle later the phases are the same
pub order-later : (rate k : ℕ) (rs : List Run) → in_order rate (6 + k) rs ≡ in_order rate k rs
unfolding in_order
order-later rate k [] = rw add-mod_left
order-later rate k (r ∷ rs) = rw (on-later, ms-later, ← add-suc, order-later rate (suc k) rs)

pub order-next : (rate k : ℕ) (rs : List Run) → in_order rate (suc k) rs ≡ in_order rate (next_phase k) rs
order-next rate k rs = by-test (eqb k 5) refl
  where
    by-test : (t : Bool) → eqb k 5 ≡ t → in_order rate (suc k) rs ≡ in_order rate (cond t 0 (k + 1)) rs
    by-test true e = rw (eqb-true k 5 e) (order-later rate 0 rs)
    by-test false e = rw add-one

pub byte_next : (k : ℕ) → phase_byte (next_phase k) ≡ phase_byte (suc k)
byte_next k = by-test (eqb k 5) refl
  where
    by-test : (t : Bool) → eqb k 5 ≡ t → phase_byte (cond t 0 (k + 1)) ≡ phase_byte (suc k)
    by-test true e = rw (eqb-true k 5 e)
    by-test false e = rw add-one

-- the last phase is the one after which a cycle begins
pub is_last : (k : ℕ) → k < 6 → eqb (suc k % 6) 0 ≡ eqb k 5
is_last k h = by-test (eqb k 5) refl
  where
    by-test : (t : Bool) → eqb k 5 ≡ t → eqb (suc k % 6) 0 ≡ t
    by-test true e = rw (eqb-true k 5 e)
    by-test false e = let d = eqb-false k 5 e in ne_eqb (suc k % 6) 0 (λ z. d (omega arith))

-- a run of a phase's byte is that phase where its length is within the tenth
pub phase-is : (rate k n : ℕ) → k < 6 → is_phase rate k (one (phase_byte k) n) ≡ within_tenth (get_or phases k 0) rate n
phase-is rate k n h = rw (eq-eqb (phase_byte k) (phase_byte k) refl, mod-eq_of_lt h)

-- a first run of another byte
pub wrong_first : (rate k b : ℕ) (rs : List Run) → eqb b (phase_byte k) ≡ false → in_order rate k (before b rs) ≡ false
unfolding in_order
wrong_first rate k b rs e = let s = split-before b rs in rw (s.2, e)
