-- A sound file: RIFF/WAVE, PCM, two channels, 16 bits, little-endian. Assumes nothing.
use Rattle.std.specs.Prelude.{ℕ, zero, suc, ◌+◌, ◌*◌, ◌/◌, ◌%◌, ◌≡◌, Bool, cond, ◌&&◌, List, [], ◌∷◌, ◌++◌, leb, ℤ, length, take, drop, Option, Some, None}
use Rattle.std.specs.Int.{w16}
use Rattle.std.proofs.Common.{of_z}

-- the low k bytes of n, the lowest first
unfoldable pub little : ℕ → ℕ → List ℕ
little zero n = []
little (suc k) n = n % 256 ∷ little k (n / 256)

-- the letters "RIFF", "WAVE", "fmt " and "data"
abbrev pub riff_tag : List ℕ
riff_tag = 82 ∷ 73 ∷ 70 ∷ 70 ∷ []

abbrev pub wave_tag : List ℕ
wave_tag = 87 ∷ 65 ∷ 86 ∷ 69 ∷ []

abbrev pub fmt_tag : List ℕ
fmt_tag = 102 ∷ 109 ∷ 116 ∷ 32 ∷ []

abbrev pub data_tag : List ℕ
data_tag = 100 ∷ 97 ∷ 116 ∷ 97 ∷ []

-- a frame has 4 bytes. What follows a size field is counted by it: 36 bytes more than the frames, the 16 of the format, the frames. The format
-- is 1 (PCM), 2 channels, frames a second, bytes a second, bytes a frame, bits a cell
unfoldable pub wav_header : ℕ → ℕ → List ℕ
wav_header rate frames =
    riff_tag ++ little 4 (36 + 4 * frames) ++ wave_tag
    ++ fmt_tag ++ little 4 16 ++ little 2 1 ++ little 2 2 ++ little 4 rate ++ little 4 (4 * rate) ++ little 2 4 ++ little 2 16
    ++ data_tag ++ little 4 (4 * frames)

-- every number of the header fits in its 32 bits
abbrev pub wav_fits : ℕ → ℕ → Bool
wav_fits rate frames = leb (4 * rate) 0xFFFF_FFFF && leb (36 + 4 * frames) 0xFFFF_FFFF

-- none where a number does not
unfoldable pub header_of : ℕ → ℕ → Option (List ℕ)
header_of rate frames = cond (wav_fits rate frames) (Some (wav_header rate frames)) None

-- each cell in two bytes, two's complement
unfoldable pub cell_bytes : List ℤ → List ℕ
cell_bytes [] = []
cell_bytes (z ∷ zs) = little 2 (of_z w16 z) ++ cell_bytes zs

-- as many whole cells as a buffer has room for
abbrev pub fitting : List ℤ → List ℕ → List ℤ
fitting cells room = take (length room / 2) cells

-- so many bytes at the front of a buffer, and the rest as before
pub record Laid (bytes before after : List ℕ) (r : ℕ) : Type 0 where
  pub count : r ≡ length bytes
  pub content : after ≡ bytes ++ drop (length bytes) before
