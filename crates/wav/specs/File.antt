-- A whole sound file, and what a reader makes of it. Assumes nothing.
use Rattle.std.specs.Prelude.{ℕ, ◌+◌, ◌*◌, ◌/◌, ◌≡◌, List, [], ◌∷◌, ◌++◌, ℤ, length, take, drop}
use Rattle.std.specs.Int.{w16}
use Rattle.std.proofs.Common.{to_z}
use Rattle.wav.specs.Wav.{wav_header, cell_bytes}

-- the number in some bytes, the lowest first
unfoldable pub number_in : List ℕ → ℕ
number_in [] = 0
number_in (b ∷ bs) = b + 256 * number_in bs

-- the cells in some bytes, two bytes each
unfoldable pub cells_in : List ℕ → List ℤ
cells_in [] = []
cells_in (a ∷ []) = []
cells_in (a ∷ b ∷ bs) = to_z w16 (number_in (a ∷ b ∷ [])) ∷ cells_in bs

-- two cells a frame
abbrev pub wav_file : ℕ → List ℤ → List ℕ
wav_file rate cells = wav_header rate (length cells / 2) ++ cell_bytes cells

-- what a reader finds in a file: its size, the size fields at bytes 4 and 40 counting what follows them, the rate at byte 24, and the cells
pub record Reads (rate : ℕ) (cells : List ℤ) (file : List ℕ) : Type 0 where
  pub size : length file ≡ 44 + 2 * length cells
  pub riff_size : number_in (take 4 (drop 4 file)) ≡ length (drop 8 file)
  pub data_size : number_in (take 4 (drop 40 file)) ≡ length (drop 44 file)
  pub rate_field : number_in (take 4 (drop 24 file)) ≡ rate
  pub cells_field : cells_in (drop 44 file) ≡ cells
