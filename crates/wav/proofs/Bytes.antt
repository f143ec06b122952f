-- Numbers and cells as bytes, as loops write them. Assumes nothing.
use mathlib.Core.Path.{◌≡◌, refl, sym, ap, ◌∙◌}
use mathlib.Core.List.{List, [], ◌∷◌}
use Prim.Native.Nat.{ℕ, zero, suc, ◌+◌, ◌*◌, ◌/◌, ◌≤◌, ◌<◌}
use native.Mathlib.Numerals.{add-one}
use native.Mathlib.Omega.{arith}
use lib.IntN.{ℤ}
use lib.ListN.{length, get_or, drop, length-append, drop_of_length-le}
use lib.Seq.{sets, sets-eq, drop-cons}
use mir.Syntax.{w16, w32}
use mir.Val.{of_z}
use Rattle.std.specs.Int.{to_le_bytes}
use Rattle.laws.proofs.Lists.{sets-append}
use Rattle.wav.specs.Wav.{little, cell_bytes, Laid}

pub length-little : (k n : ℕ) → length (little k n) ≡ k
unfolding little
length-little zero n = refl
length-little (suc k) n = ap suc (length-little k (n / 256))

pub length-cells : (cells : List ℤ) → length (cell_bytes cells) ≡ 2 * length cells
unfolding cell_bytes
length-cells [] = refl
length-cells (z ∷ zs) = omega (arith, length-append (little 2 (of_z w16 z)) (cell_bytes zs), length-little 2 (of_z w16 z), length-cells zs)

-- a number's bytes as the library gives them
pub low-two : (n : ℕ) → to_le_bytes w16 n ≡ little 2 n
unfolding little
low-two n = refl

pub low-four : (n : ℕ) → to_le_bytes w32 n ≡ little 4 n
unfolding little
low-four n =
    let b : n / 65536 ≡ n / 256 / 256 = omega arith in
    let c : n / 16777216 ≡ n / 256 / 256 / 256 = omega arith in
    rw (b, c)

-- ---- cells, one after another

pub cells-turn : (out : List ℕ) (cells : List ℤ) (i : ℕ) (d : ℤ) → i < length cells
    → sets (sets out (2 * i) (little 2 (of_z w16 (get_or cells i d)))) (2 * (i + 1)) (cell_bytes (drop (i + 1) cells)) ≡ sets out (2 * i) (cell_bytes (drop i cells))
unfolding cell_bytes
cells-turn out cells i d h =
    let z = of_z w16 (get_or cells i d) in
    let e : 2 * (i + 1) ≡ 2 * i + length (little 2 z) = omega (arith, length-little 2 z) in
    rw (drop-cons cells i d h, e, add-one i) (sets-append out (2 * i) (little 2 z) (cell_bytes (drop (suc i) cells)))

pub cells-end : (out : List ℕ) (cells : List ℤ) (at i : ℕ) → length cells ≤ i → sets out at (cell_bytes (drop i cells)) ≡ out
unfolding cell_bytes
cells-end out cells at i h = rw (drop_of_length-le cells h)

pub cells-laid : (out : List ℕ) (cells : List ℤ) {after : List ℕ} {r : ℕ} → 2 * length cells ≤ length out → r ≡ 2 * length cells
    → after ≡ sets out 0 (cell_bytes cells) → Laid (cell_bytes cells) out after r
cells-laid out cells h n e =
    let z : 0 + length (cell_bytes cells) ≡ length (cell_bytes cells) = omega arith in
    record { count = n ∙ sym (length-cells cells); content = e ∙ (rw z at (sets-eq (cell_bytes cells) out 0 (omega (arith, length-cells cells)))) }
