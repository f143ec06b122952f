-- Record 83 of the replay: the fields from byte 1 on, and what it prints. Assumes nothing.
use Rattle.std.specs.Prelude.{ℕ, ◌-◌, ◌*◌, ◌/◌, min, ◌≡◌, List, length, take, drop, replicate}
use Rattle.error.specs.Told.{Told, value, refused}
use Rattle.hex_digits.specs.Hex.{byte_at, wide_at, bytes_from}
use Rattle.replay_cells.specs.Cells.{byte_text, numbered_text}
use Rattle.bank_writer.specs.Bytes.{entries_from}
use Rattle.bank_writer.specs.Refusals.{bank_given, cells_after}

-- "header (10), room (2, at most 4,096), count (1)"; a line that has more room, or more bytes, is bad
abbrev pub header_at : List ℕ → List ℕ
header_at l = bytes_from l 1 10

abbrev pub room_at : List ℕ → ℕ
room_at l = min (wide_at l 11) 4096

abbrev pub count_at : List ℕ → ℕ
count_at l = byte_at l 13

-- "count times id (2), kind (1), flags (1), gain (1), param0 (2), param1 (2), length (4); the rest of the line is the payloads"
abbrev pub rest_at : List ℕ → List ℕ
rest_at l = bytes_from l 14 (min (length l / 2 - 14) 4083)

abbrev pub end_of : ℕ → List ℕ → ℕ
end_of count rest = min (13 * count) (length rest)

unfoldable pub bank_of : List ℕ → List ℕ → ℕ → Told (List ℕ)
bank_of l rest room =
    let end = end_of (count_at l) rest in
    bank_given (header_at l) (entries_from (take end rest)) (count_at l) (drop end rest) room

-- "number, length (8 digits, 0 where refused)", together ten digits
abbrev pub word_of : Told (List ℕ) → ℕ
word_of (value bytes) = length bytes
word_of (refused n) = n * 4294967296

-- "then every byte of a buffer of that room, A5 each before the call"
unfoldable pub bank_text : List ℕ → List ℕ
bank_text l = let t = bank_of l (rest_at l) (room_at l) in numbered_text 10 (word_of t) byte_text (cells_after t (replicate (room_at l) 0xA5))

-- what the call left
pub record Left (t : Told (List ℕ)) (before after : List ℕ) (r : ℕ) : Type 0 where
  pub word : r ≡ word_of t
  pub cells : after ≡ cells_after t before
