-- The fewest digits of a number, told as the kit's library `io` tells them, are those that are spelled here. Assumes nothing.
use Prim.Native.Nat.{ℕ, zero, suc, ◌+◌, ◌-◌, ◌*◌, ◌/◌, ◌%◌, ◌^◌, ◌≤◌, ◌<◌}
use mathlib.Core.Path.{◌≡◌, refl}
use mathlib.Core.Bool.{Bool, true, false, cond}
use mathlib.Core.List.{List, [], ◌∷◌, ◌++◌}
use native.Mathlib.Nat.{pow-suc, one-le-pow, pow-le-pow_right, lt_of_le_of_lt}
use native.Mathlib.Numerals.{unary_clauses}
use native.Mathlib.Omega.{arith}
use borrow.Author.Tests.{lt-ltb, le-ltb, leb-true, leb-false}
use lib.Dec.{leb, ltb}
use Rattle.render_texts.specs.Texts.{digit, spelled}

-- the kit's words, with its text: crates.txt does not list that library
abbrev pub hex_digit_ascii : ℕ → ℕ
hex_digit_ascii d = cond (ltb d 10) (48 + d) (87 + d)

abbrev pub last_digits : ℕ → ℕ → ℕ → List ℕ
last_digits b zero n = []
last_digits b (suc k) n = last_digits b k (n / b) ++ (hex_digit_ascii (n % b) ∷ [])

abbrev pub IsDigitCount : ℕ → ℕ → ℕ → ℕ → Type 0
IsDigitCount b width n k = (width ≤ k) × (n < b ^ k) × (width < k → b ^ (k - 1) ≤ n)

same-glyph : (n : ℕ) → hex_digit_ascii (n % 10) ≡ digit n
same-glyph n = rw (lt-ltb (n % 10) 10 (omega arith))

-- the fewest digits are those of the number
pub fewest : (f k n : ℕ) → k ≤ f → IsDigitCount 10 1 n k → last_digits 10 k n ≡ spelled f n
unfolding spelled
fewest f zero n h e = absurd (omega (arith, e.0))
fewest zero (suc k) n h e = absurd (omega arith)
fewest (suc f) (suc zero) n h e = rw (lt-ltb n 10 e.1, same-glyph n)
fewest (suc f) (suc (suc k)) n h e =
    let most : n < 10 ^ k * 10 * 10 = simp (unary_clauses, pow-suc) at e.1 in
    let least : 10 ^ k * 10 ≤ n = simp (unary_clauses, pow-suc) at (e.2 (omega arith)) in
    let one : 1 ≤ 10 ^ k = one-le-pow k 10 (omega arith) in
    rw (le-ltb n 10 (omega arith), same-glyph n, fewest f (suc k) (n / 10) (omega arith) (omega arith, simp pow-suc (omega arith), λ _. simp unary_clauses (omega arith)))

-- a number below 2^64 has at most 20 digits
pub twenty : (k n : ℕ) → n < 18446744073709551616 → IsDigitCount 10 1 n k → k ≤ 20
twenty k n h e = by (leb k 20) refl
  where
    by : (t : Bool) → leb k 20 ≡ t → k ≤ 20
    by true q = leb-true k 20 q
    by false q =
        let more = lt_of_le_of_lt (e.2 (omega (arith, leb-false k 20 q))) h in
        absurd (omega (arith, more, pow-le-pow_right {n = 10} (omega arith) {i = 20} {j = k - 1} (omega (arith, leb-false k 20 q))))
