-- The first line of a script: up to the first newline, or all of it. Assumes nothing.
use Prim.Native.Nat.{ℕ, suc, ◌+◌, ◌-◌, ◌<◌, ◌≤◌}
use mathlib.Core.Path.{◌≡◌, refl, ap, sym}
use native.Mathlib.Numerals.{add-one}
use mathlib.Core.Bool.{Bool, true, false}
use mathlib.Core.List.{List, [], ◌∷◌}
use native.Mathlib.Omega.{arith}
use lib.Dec.{eqb}
use lib.ListN.{length, take, drop, length-drop, drop_of_length-le}
use lib.Seq.{take-length}
use Rattle.std.specs.Prelude.{Some, None}
use Rattle.std.specs.List.{between, position, position_or_len}
use Rattle.std.proofs.lemmas.Grind.{common_steps}
use Rattle.std.proofs.lemmas.List.{length-take-le}
use Rattle.std.proofs.lemmas.Slice.{between_to_end}
use Rattle.exports_replay.specs.Lines.{before, lines_of}

abbrev pub ends : ℕ → Bool
ends b = eqb b 10

line_found : (script : List ℕ) → position_or_len ends script < length script
    → lines_of script ≡ take (position_or_len ends script) script ∷ lines_of (drop (suc (position_or_len ends script)) script)
unfolding lines_of
line_found [] h = absurd (omega arith)
line_found (b ∷ bs) h = by (line_found bs) (ends b) refl
  where
    by : (position_or_len ends bs < length bs → lines_of bs ≡ take (position_or_len ends bs) bs ∷ lines_of (drop (suc (position_or_len ends bs)) bs))
        → (t : Bool) → ends b ≡ t
        → lines_of (b ∷ bs) ≡ take (position_or_len ends (b ∷ bs)) (b ∷ bs) ∷ lines_of (drop (suc (position_or_len ends (b ∷ bs))) (b ∷ bs))
    by others true e = rw e
    by others false e =
        let k : position_or_len ends bs < length bs = let g = rw e at h in omega arith in
        let n : 1 + position_or_len ends bs ≡ suc (position_or_len ends bs) = omega arith in
        rw (e, n) (ap (before b) (others k))

line-open : (script : List ℕ) → 0 < length script → length script ≤ position_or_len ends script → lines_of script ≡ script ∷ []
unfolding lines_of
line-open [] h k = absurd (omega arith)
line-open (b ∷ []) h k = by (ends b) refl
  where
    by : (t : Bool) → ends b ≡ t → lines_of (b ∷ []) ≡ (b ∷ []) ∷ []
    by true e = let g = rw e at k in absurd (omega arith)
    by false e = rw e
line-open (b ∷ c ∷ bs) h k = by (line-open (c ∷ bs) (omega arith)) (ends b) refl
  where
    by : (length (c ∷ bs) ≤ position_or_len ends (c ∷ bs) → lines_of (c ∷ bs) ≡ (c ∷ bs) ∷ []) → (t : Bool) → ends b ≡ t → lines_of (b ∷ c ∷ bs) ≡ (b ∷ c ∷ bs) ∷ []
    by others true e = let g = rw e at k in absurd (omega arith)
    by others false e = let g = rw e at k in rw e (ap (before b) (others (omega arith)))

-- what stands up to a place and behind it, by its own length
up_to : (script : List ℕ) (i : ℕ) → i ≤ length script → take i script ≡ take (length (take i script)) script
up_to script i h = rw (length-take-le i script h)

behind : (script : List ℕ) (i : ℕ) → i ≤ length script → between i (length script) script ≡ drop (length script - length (between i (length script) script)) script
behind script i h =
    let d = length-drop i script in
    let n : length script - length (drop i script) ≡ i = omega (arith, d) in
    rw (between_to_end script i (length script) (omega arith), n)

-- the first line, and what stands after its end
pub cut_found : (script : List ℕ) (i : ℕ) → position ends script ≡ Some i
    → ((lines_of script ≡ take i script ∷ lines_of (between (i + 1) (length script) script)) × (length (between (i + 1) (length script) script) < length script))
    × ((take i script ≡ take (length (take i script)) script)
    × (between (i + 1) (length script) script ≡ drop (length script - length (between (i + 1) (length script) script)) script))
cut_found script i e =
    let at : position_or_len ends script ≡ i = grind (arith, common_steps) in
    let inside : position_or_len ends script < length script = grind (arith, common_steps) in
    let d = length-drop (i + 1) script in (
      (rw (between_to_end script (i + 1) (length script) (omega arith)) (rw (add-one i) (rw at at (line_found script inside)), omega (arith, d))),
      (up_to script i (omega arith), behind script (i + 1) (omega arith)),
    )

all_open : (script : List ℕ) → 0 < length script → position ends script ≡ None
    → (lines_of script ≡ script ∷ lines_of (between (length script) (length script) script)) × (length (between (length script) (length script) script) < length script)
unfolding lines_of
all_open script h e =
    let out : length script ≤ position_or_len ends script = grind (arith, common_steps) in
    let z : drop (length script) script ≡ [] = drop_of_length-le script (omega arith) in
    rw (between_to_end script (length script) (length script) (omega arith), z) (line-open script h out, h)

pub cut-open : (script : List ℕ) → 0 < length script → position ends script ≡ None
    → ((lines_of script ≡ script ∷ lines_of (between (length script) (length script) script)) × (length (between (length script) (length script) script) < length script))
    × ((script ≡ take (length script) script)
    × (between (length script) (length script) script ≡ drop (length script - length (between (length script) (length script) script)) script))
cut-open script h e = (all_open script h e, (sym (take-length script), behind script (length script) (omega arith)))
