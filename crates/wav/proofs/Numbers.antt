-- The header as its numbers, laid one after another over 44 cells. Assumes nothing.
use mathlib.Core.Path.{◌≡◌, refl, ap, ◌∙◌}
use mathlib.Core.List.{List}
use Prim.Native.Nat.{ℕ, ◌+◌, ◌*◌}
use native.Mathlib.Omega.{arith}
use lib.ListN.{replicate}
use lib.Seq.{sets}
use mir.Syntax.{w16, w32}
use Rattle.std.specs.Int.{to_le_bytes}
use Rattle.wav.specs.Wav.{little, wav_header, riff_tag, wave_tag, fmt_tag, data_tag}
use Rattle.wav.proofs.Bytes.{low-two, low-four}

-- a number's bytes as the library gives them, laid
four : (m n at : ℕ) (a : List ℕ) {b : List ℕ} → m ≡ n → b ≡ sets a at (to_le_bytes w32 m) → b ≡ sets a at (little 4 n)
four m n at a e f = f ∙ ap (sets a at) (low-four m ∙ ap (little 4) e)

two : (n at : ℕ) (a : List ℕ) {b : List ℕ} → b ≡ sets a at (to_le_bytes w16 n) → b ≡ sets a at (little 2 n)
two n at a f = f ∙ ap (sets a at) (low-two n)

module _ (rate frames : ℕ) where
  numbers : sets (sets (sets (sets (sets (sets (sets (sets (sets (sets (sets (sets (sets (replicate 44 0) 0 riff_tag) 4 (little 4 (36 + 4 * frames))) 8 wave_tag) 12 fmt_tag) 16 (little 4 16)) 20 (little 2 1)) 22 (little 2 2)) 24 (little 4 rate)) 28 (little 4 (4 * rate))) 32 (little 2 4)) 34 (little 2 16)) 36 data_tag) 40 (little 4 (4 * frames)) ≡ wav_header rate frames
  unfolding little wav_header
  numbers = refl

  pub laid : {second all rest : ℕ} {b1 b2 b3 b4 b5 b6 b7 b8 b9 b10 b11 b12 b13 : List ℕ}
      → second ≡ rate * 4
      → all ≡ frames * 4
      → rest ≡ all + 36
      → b1 ≡ sets (replicate 44 0) 0 riff_tag
      → b2 ≡ sets b1 4 (to_le_bytes w32 rest)
      → b3 ≡ sets b2 8 wave_tag
      → b4 ≡ sets b3 12 fmt_tag
      → b5 ≡ sets b4 16 (to_le_bytes w32 16)
      → b6 ≡ sets b5 20 (to_le_bytes w16 1)
      → b7 ≡ sets b6 22 (to_le_bytes w16 2)
      → b8 ≡ sets b7 24 (to_le_bytes w32 rate)
      → b9 ≡ sets b8 28 (to_le_bytes w32 second)
      → b10 ≡ sets b9 32 (to_le_bytes w16 4)
      → b11 ≡ sets b10 34 (to_le_bytes w16 16)
      → b12 ≡ sets b11 36 data_tag
      → b13 ≡ sets b12 40 (to_le_bytes w32 all)
      → b13 ≡ wav_header rate frames
  laid {b1 = b1} {b4 = b4} {b5 = b5} {b6 = b6} {b7 = b7} {b8 = b8} {b9 = b9} {b10 = b10} {b12 = b12} s f r e1 e2 e3 e4 e5 e6 e7 e8 e9 e10 e11 e12 e13 =
      rw (four _ (4 * frames) 40 b12 (omega arith) e13, e12, two 16 34 b10 e11, two 4 32 b9 e10, four _ (4 * rate) 28 b8 (omega arith) e9, four rate rate 24 b7 refl e8, two 2 22 b6 e7, two 1 20 b5 e6, four 16 16 16 b4 refl e5, e4, e3, four _ (36 + 4 * frames) 4 b1 (omega arith) e2, e1) numbers
