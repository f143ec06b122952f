-- Document 02, T-01: "A reader of a recorded list of bytes, 1 on and 0 off, says whether it is whole cycles of that pattern under the same
-- tenth". It is defined over the recording's runs of equal bytes. Assumes nothing.
use Rattle.std.specs.Prelude.{ℕ, suc, ◌%◌, ◌<◌, ◌≡◌, Bool, true, cond, ◌&&◌, List, [], ◌∷◌, ltb, eqb, length, get_or}
use Rattle.evacuation.specs.Pattern.{phases, is_on, byte_of, within_tenth, spelt}

-- so many equal bytes, one after another
pub record Run : Type 0 where
  pub byte : ℕ
  pub count : ℕ

-- a byte before runs belongs to the first of them if it is of that byte; else it is a run
unfoldable pub before : ℕ → List Run → List Run
before b [] = record { byte = b; count = 1 } ∷ []
before b (r ∷ rs) =
    cond (eqb b r.byte) (record { byte = b; count = suc r.count } ∷ rs) (record { byte = b; count = 1 } ∷ r ∷ rs)

-- a list as its runs
unfoldable pub runs_of : List ℕ → List Run
runs_of [] = []
runs_of (b ∷ l) = before b (runs_of l)

-- phase k of the pattern without end: cycle after cycle, k counted from 0
abbrev pub ms_of : ℕ → ℕ
ms_of k = get_or phases (k % 6) 0

-- a run has phase k's byte and a length within its tenth
abbrev pub is_phase : ℕ → ℕ → Run → Bool
is_phase rate k r = eqb r.byte (byte_of (is_on k)) && within_tenth (ms_of k) rate r.count

-- runs are the phases from phase k on, in their order, and the next would begin a cycle
unfoldable pub in_order : ℕ → ℕ → List Run → Bool
in_order rate k [] = eqb (k % 6) 0
in_order rate k (r ∷ rs) = is_phase rate k r && in_order rate (suc k) rs

-- "whole cycles of that pattern .. for an empty list it says no"
unfoldable pub whole_cycles : ℕ → List ℕ → Bool
whole_cycles rate l = ltb 0 (length l) && in_order rate 0 (runs_of l)

-- ---- what it accepts, said by the lengths of the phases (Accepted.accepted, accepts)
-- lengths, the first of them phase k's: each within its phase's tenth
abbrev pub AllWithin : ℕ → ℕ → List ℕ → Type 0
AllWithin rate k [] = Unit {0}
AllWithin rate k (n ∷ ns) = (within_tenth (ms_of k) rate n ≡ true) × AllWithin rate (suc k) ns

-- l is one or more whole cycles, of phases of the lengths ns
pub record Cycles (rate : ℕ) (l ns : List ℕ) : Type 0 where
  pub bytes : l ≡ spelt 0 ns
  pub tenths : AllWithin rate 0 ns
  pub some : 0 < length ns
  pub whole : length ns % 6 ≡ 0
