-- The records 20 to 2A: the buffer that each fills, and what is printed of it. Assumes nothing.
use Rattle.std.specs.Prelude.{ℕ, ◌≡◌, ◌≤◌, cond, List, ◌++◌, length, map, eqb, ℤ, drop, replicate, None, Option, Some}
use Rattle.std.specs.Int.{w8, w16, w32}
use Rattle.std.proofs.Common.{to_z}
use Rattle.laws.specs.Runs.{after, given}
use Rattle.output.specs.Levels.{raised}
use Rattle.buffers.specs.Shapes.{shape_step, shape_raw, frames_in, cells_in, level_next, level_cell}
use Rattle.buffers.specs.declared.Level.{Level}
use Rattle.buffers.specs.declared.Level.TheVariants.{Duty, U12, U16}
use Rattle.buffers.specs.declared.Shape.{Shape}
use Rattle.buffers.specs.declared.Shape.TheVariants.{Once, Doubled, Sides}
use Rattle.buffers.specs.Buffers.{to_i8, to_i16, to_i32}
use Rattle.hex_digits.specs.Hex.{Wrote}
use Rattle.replay_box.specs.Frames.{frames}
use Rattle.replay_box.specs.declared.OpenBox.{OpenBox}
use Rattle.replay_cells.specs.Cells.{byte_text, wide_text, i8_text, i16_text, i32_text, numbered_text}
use Rattle.replay_fills.specs.declared.Buffer.{Buffer}
use Rattle.replay_fills.specs.declared.Buffer.TheVariants as K

-- "Before the call every byte of the buffer is A5", at each width
abbrev pub blank_u8 : ℕ
blank_u8 = 0xA5

abbrev pub blank_u16 : ℕ
blank_u16 = 0xA5A5

abbrev pub blank_i8 : ℤ
blank_i8 = to_z w8 0xA5

abbrev pub blank_i16 : ℤ
blank_i16 = to_z w16 0xA5A5

abbrev pub blank_i32 : ℤ
blank_i32 = to_z w32 0xA5A5A5A5

-- what a fill prints, and the box after it
pub record Fill : Type 0 where
  pub text : List ℕ
  pub held : OpenBox

module _ {A : Type 0} (text : A → List ℕ) (step : OpenBox → OpenBox) (gives : OpenBox → List A) where
  -- "the filled length in four digits, and on the same line every cell of the buffer, written or not, at the cell's width"
  unfoldable pub filled_over : ℕ → ℕ → List A → OpenBox → Fill
  filled_over count written cells b = record { text = numbered_text 4 written text (given step gives count b ++ drop written cells); held = after step count b }

-- by shape and by level: a frame for each cell, or for each pair of cells, where an odd last one is not written
abbrev pub shaped_over : {A : Type 0} → (A → List ℕ) → (ℤ → A) → Shape → ℕ → List A → List ℕ → OpenBox → Fill
shaped_over text scale shape n cells bytes b = filled_over text (shape_step (frames bytes) shape) (λ b. map scale (shape_raw (frames bytes) shape b)) (frames_in shape n) (cells_in shape n) cells b

abbrev pub shaped_fill : {A : Type 0} → (A → List ℕ) → A → (ℤ → A) → Shape → ℕ → List ℕ → OpenBox → Fill
shaped_fill text blank scale shape n bytes b = shaped_over text scale shape n (replicate n blank) bytes b

abbrev pub level_fill : Level → ℕ → List ℕ → OpenBox → Fill
level_fill level n bytes b = filled_over wide_text (level_next (frames bytes) level) (level_cell (frames bytes) level) n n (replicate n blank_u16) b

-- 20: "duty"
abbrev pub duty_fill : ℕ → List ℕ → OpenBox → Fill
duty_fill n bytes b = level_fill Duty n bytes b

-- 21: "PCM i8"
abbrev pub pcm_i8_fill : ℕ → List ℕ → OpenBox → Fill
pcm_i8_fill n bytes b = shaped_fill i8_text blank_i8 to_i8 Once n bytes b

-- 22: "PCM i16"
abbrev pub pcm_i16_fill : ℕ → List ℕ → OpenBox → Fill
pcm_i16_fill n bytes b = shaped_fill i16_text blank_i16 to_i16 Once n bytes b

-- 23: "PCM i32"
abbrev pub pcm_i32_fill : ℕ → List ℕ → OpenBox → Fill
pcm_i32_fill n bytes b = shaped_fill i32_text blank_i32 to_i32 Once n bytes b

-- 24: "DAC u8"
abbrev pub dac_u8_fill : ℕ → List ℕ → OpenBox → Fill
dac_u8_fill n bytes b = shaped_fill byte_text blank_u8 raised Once n bytes b

-- 25: "DAC u12"
abbrev pub dac_u12_fill : ℕ → List ℕ → OpenBox → Fill
dac_u12_fill n bytes b = level_fill U12 n bytes b

-- 26: "DAC u16"
abbrev pub dac_u16_fill : ℕ → List ℕ → OpenBox → Fill
dac_u16_fill n bytes b = level_fill U16 n bytes b

-- 27: "stereo i16, mono doubled"
abbrev pub stereo_i16_fill : ℕ → List ℕ → OpenBox → Fill
stereo_i16_fill n bytes b = shaped_fill i16_text blank_i16 to_i16 Doubled n bytes b

-- 28: "stereo i32, mono doubled"
abbrev pub stereo_i32_fill : ℕ → List ℕ → OpenBox → Fill
stereo_i32_fill n bytes b = shaped_fill i32_text blank_i32 to_i32 Doubled n bytes b

-- 29: "stereo i16, panned"
abbrev pub panned_i16_fill : ℕ → List ℕ → OpenBox → Fill
panned_i16_fill n bytes b = shaped_fill i16_text blank_i16 to_i16 Sides n bytes b

-- 2A: "stereo i8, panned"
abbrev pub panned_i8_fill : ℕ → List ℕ → OpenBox → Fill
panned_i8_fill n bytes b = shaped_fill i8_text blank_i8 to_i8 Sides n bytes b

-- the record of a code
unfoldable pub buffer_of : ℕ → Option Buffer
buffer_of code =
    cond (eqb code 0x20) (Some K.Duty)
    (cond (eqb code 0x21) (Some K.PcmI8)
    (cond (eqb code 0x22) (Some K.PcmI16)
    (cond (eqb code 0x23) (Some K.PcmI32)
    (cond (eqb code 0x24) (Some K.DacU8)
    (cond (eqb code 0x25) (Some K.DacU12)
    (cond (eqb code 0x26) (Some K.DacU16)
    (cond (eqb code 0x27) (Some K.StereoI16)
    (cond (eqb code 0x28) (Some K.StereoI32)
    (cond (eqb code 0x29) (Some K.PannedI16)
    (cond (eqb code 0x2A) (Some K.PannedI8) None))))))))))

abbrev pub fill_for : Buffer → ℕ → List ℕ → OpenBox → Fill
fill_for K.Duty n bytes b = duty_fill n bytes b
fill_for K.PcmI8 n bytes b = pcm_i8_fill n bytes b
fill_for K.PcmI16 n bytes b = pcm_i16_fill n bytes b
fill_for K.PcmI32 n bytes b = pcm_i32_fill n bytes b
fill_for K.DacU8 n bytes b = dac_u8_fill n bytes b
fill_for K.DacU12 n bytes b = dac_u12_fill n bytes b
fill_for K.DacU16 n bytes b = dac_u16_fill n bytes b
fill_for K.StereoI16 n bytes b = stereo_i16_fill n bytes b
fill_for K.StereoI32 n bytes b = stereo_i32_fill n bytes b
fill_for K.PannedI16 n bytes b = panned_i16_fill n bytes b
fill_for K.PannedI8 n bytes b = panned_i8_fill n bytes b

-- no cell has more than 8 digits
abbrev pub Short : {A : Type 0} → (A → List ℕ) → Type 0
Short {A} text = (x : A) → length (text x) ≤ 8

-- the text was laid over a buffer from its front on, and the box is the one after the fill
pub record Shows (f : Fill) (before after : List ℕ) (b : OpenBox) (len : ℕ) : Type 0 where
  pub laid : Wrote before 0 f.text after len
  pub held : b ≡ f.held
