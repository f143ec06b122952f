-- The documents' example of a list. Assumes nothing.
use Rattle.std.specs.Prelude.{List, [], ◌∷◌, ◌++◌, ℕ}
use Rattle.hex_digits.specs.Hex.{hex_of, newline}

-- document 01: "Input `01000003E8000000`, `0203`"
abbrev pub example_lines : List (List ℕ)
example_lines = hex_of 16 0x01000003E8000000 ∷ hex_of 4 0x0203 ∷ []

-- document 02, T-03: "`framelist` prints 01FF, 021B, 0246"
abbrev pub example_text : List ℕ
example_text = hex_of 4 0x01FF ++ newline ++ hex_of 4 0x021B ++ newline ++ hex_of 4 0x0246 ++ newline
