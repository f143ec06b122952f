-- Cells at their width, "2, 4 or 8 digits, negatives in two's complement". Assumes nothing.
use Rattle.std.specs.Prelude.{ℕ, List, [], ◌∷◌, ◌++◌, ℤ}
use Rattle.std.specs.Int.{w8, w16, w32}
use Rattle.std.proofs.Common.{of_z}
use Rattle.hex_digits.specs.Hex.{hex_of, newline}

abbrev pub byte_text : ℕ → List ℕ
byte_text n = hex_of 2 n

abbrev pub wide_text : ℕ → List ℕ
wide_text n = hex_of 4 n

abbrev pub i8_text : ℤ → List ℕ
i8_text z = hex_of 2 (of_z w8 z)

abbrev pub i16_text : ℤ → List ℕ
i16_text z = hex_of 4 (of_z w16 z)

abbrev pub i32_text : ℤ → List ℕ
i32_text z = hex_of 8 (of_z w32 z)

-- every cell, "without a space between"
unfoldable pub cells_text : {A : Type 0} → (A → List ℕ) → List A → List ℕ
cells_text text [] = []
cells_text text (x ∷ cells) = text x ++ cells_text text cells

-- one line: a number and every cell
abbrev pub numbered_text : {A : Type 0} → ℕ → ℕ → (A → List ℕ) → List A → List ℕ
numbered_text digits number text cells = hex_of digits number ++ cells_text text cells ++ newline
