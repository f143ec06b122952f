-- A number's digits without zeros in front. Assumes nothing.
use Prim.Native.Nat.{ℕ, zero, suc, ◌/◌, ◌≤◌, ◌<◌, ◌-◌, ◌^◌, ◌*◌}
use mathlib.Core.Path.{◌≡◌, refl}
use mathlib.Core.Bool.{Bool, true, false, cond}
use mathlib.Core.List.{List, [], ◌∷◌, ◌++◌, append_assoc}
use native.Mathlib.Nat.{pow-suc}
use native.Mathlib.Numerals.{add-one}
use native.Mathlib.Omega.{arith}
use borrow.Author.Tests.{ltb-true, ltb-false, ne_eqb}
use lib.Dec.{ltb, eqb}
use lib.ListN.{length, drop, set}
use Rattle.std.proofs.lemmas.List.{drop-set}
use Rattle.render_texts.specs.Texts.{digit, spelled}

-- the digits that are still to come, in so many places
abbrev pub front : ℕ → ℕ → List ℕ
front places rest = cond (eqb rest 0) [] (spelled places rest)

-- the last digit, behind the others
pub last : (places n : ℕ) → spelled (suc places) n ≡ front places (n / 10) ++ (digit n ∷ [])
unfolding spelled
last places n = by (ltb n 10) refl
  where
    by : (t : Bool) → ltb n 10 ≡ t → cond t [] (spelled places (n / 10)) ++ (digit n ∷ []) ≡ front places (n / 10) ++ (digit n ∷ [])
    by true e = let z : n / 10 ≡ 0 = omega (arith, ltb-true n 10 e) in rw z refl
    by false e = rw (ne_eqb (n / 10) 0 (omega (arith, ltb-false n 10 e)))

-- one turn: the last digit of what is still to come goes before those that stand
turn : (digits : List ℕ) (at rest : ℕ) → 0 < rest → at < length digits
    → front at (rest / 10) ++ drop at (set digits at (digit rest)) ≡ front (suc at) rest ++ drop (suc at) digits
turn digits at rest h k =
    rw (drop-set digits at (digit rest) k, add-one at, ne_eqb rest 0 (omega arith), last at rest, append_assoc (front at (rest / 10)) (digit rest ∷ []) (drop (suc at) digits)) refl

-- the same where the place is counted down
pub put : (digits : List ℕ) (at rest : ℕ) → 0 < rest → rest < 10 ^ at → at ≤ length digits
    → front (at - 1) (rest / 10) ++ drop (at - 1) (set digits (at - 1) (digit rest)) ≡ front at rest ++ drop at digits
put digits zero rest h k n = absurd (omega arith)
put digits (suc at) rest h k n = let z : suc at - 1 ≡ at = omega arith in rw z (turn digits at rest h (omega arith))

-- a digit takes a place
pub fewer : (at rest : ℕ) → 0 < rest → rest < 10 ^ at → rest / 10 < 10 ^ (at - 1)
fewer zero rest h k = absurd (omega arith)
fewer (suc at) rest h k =
    let z : suc at - 1 ≡ at = omega arith in
    let e : rest < 10 ^ at * 10 = rw (← pow-suc 10 at) k in
    rw z (omega arith)
