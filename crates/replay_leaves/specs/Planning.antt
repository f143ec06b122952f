-- Record 86 of the replay: how often a signal would be turned away. Assumes nothing.
use Rattle.std.specs.Prelude.{ℕ, List, ◌++◌}
use Rattle.counts.specs.Counts.{counted}
use Rattle.counts.specs.declared.Counts.{Counts}
use Rattle.error.specs.Told.{Told, value, refused}
use Rattle.hex_digits.specs.Hex.{byte_at, hex_of, newline}

-- "number, refused (8 digits), accepted (8 digits); zeros where refused"
abbrev pub counts_line : Told Counts → List ℕ
counts_line (value c) = hex_of 2 0 ++ hex_of 8 c.refused ++ hex_of 8 c.accepted ++ newline
counts_line (refused n) = hex_of 2 n ++ hex_of 8 0 ++ hex_of 8 0 ++ newline

-- "N (1), k (1), n (1), p (1)"
unfoldable pub counts_text : List ℕ → List ℕ
counts_text l = counts_line (counted (byte_at l 1) (byte_at l 2) (byte_at l 3) (byte_at l 4))
