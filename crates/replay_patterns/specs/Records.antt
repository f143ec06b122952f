-- Records 80 and 81 of the replay: the fields from byte 1 on, and what each prints. Assumes nothing.
use Rattle.std.specs.Prelude.{ℕ, ◌-◌, ◌/◌, min, List, ◌++◌, length}
use Rattle.error.specs.Told.{Told, value, refused, and_then}
use Rattle.hex_digits.specs.Hex.{wide_at, long_at, bytes_from, hex_of, newline}
use Rattle.replay_cells.specs.Cells.{byte_text, cells_text}
use Rattle.evacuation.specs.Pattern.{byte_of, samples_from}
use Rattle.evacuation.specs.Reader.{whole_cycles}
use Rattle.evacuation.specs.Opened.{opened_at}

-- 80, evacuation pattern: "rate (4), first sample (4), samples (2) | number; if 00, a second line: 01 or 00 for each sample"
abbrev pub samples_at : ℕ → List ℕ → List ℕ
samples_at rate l = samples_from rate (long_at l 5) (wide_at l 9)

abbrev pub lines_of : Told (List ℕ) → List ℕ
lines_of (value samples) = hex_of 2 0 ++ newline ++ cells_text byte_text samples ++ newline
lines_of (refused n) = hex_of 2 n ++ newline

unfoldable pub pattern_text : List ℕ → List ℕ
pattern_text l = lines_of (and_then (opened_at (long_at l 1)) (λ rate. value (samples_at rate l)))

-- 81, evacuation reader: "rate (4), then bytes (0 to 4,092) | number, then 01 whole cycles or 00 not (00 where refused)"
-- a line that has more bytes is bad
abbrev pub recording_at : List ℕ → List ℕ
recording_at l = bytes_from l 5 (min (length l / 2 - 5) 4092)

abbrev pub line_of : Told ℕ → List ℕ
line_of (value b) = hex_of 2 0 ++ hex_of 2 b ++ newline
line_of (refused n) = hex_of 2 n ++ hex_of 2 0 ++ newline

unfoldable pub reader_text : List ℕ → List ℕ
reader_text l =
    line_of (and_then (opened_at (long_at l 1)) (λ rate. value (byte_of (whole_cycles rate (recording_at l)))))
