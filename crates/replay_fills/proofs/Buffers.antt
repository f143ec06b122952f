-- Blank cells, as a call left them and as they are printed. Assumes nothing.
use mathlib.Core.Path.{◌≡◌, refl, ap, ◌∙◌}
use mathlib.Core.List.{List, [], ◌∷◌}
use mir.Syntax.{w8, w16, w32}
use mir.Val.{of_z}
use Prim.Native.Nat.{ℕ, zero, suc, ◌+◌, ◌*◌, ◌≤◌}
use native.Mathlib.Omega.{arith}
use lib.ListN.{length, take, replicate, length-replicate, length-append}
use lib.IntN.{ℤ}
use Rattle.buffers.specs.Buffers.{FillsIn}
use Rattle.buffers.specs.Shapes.{level_next, level_cell}
use Rattle.buffers.specs.declared.Level.{Level}
use Rattle.buffers.specs.declared.Shape.{Shape}
use Rattle.hex_digits.specs.Hex.{Laid}
use Rattle.hex_digits.proofs.Texts.{all, length-hex_of}
use Rattle.replay_box.specs.Boxes.{ValidBox}
use Rattle.replay_box.specs.Frames.{frames, Levels}
use Rattle.replay_box.specs.declared.OpenBox.{OpenBox}
use Rattle.replay_cells.specs.Cells.{byte_text, wide_text, i8_text, i16_text, i32_text, cells_text, numbered_text}
use Rattle.replay_fills.specs.Fills.{Short, blank_u16, filled_over, shaped_over, shaped_fill, level_fill, Shows}

module _ {A : Type 0} (text : A → List ℕ) (short : Short text) where
  length-cells-le : (cells : List A) → length (cells_text text cells) ≤ 8 * length cells
  unfolding cells_text
  length-cells-le [] = omega arith
  length-cells-le (x ∷ cells) = rw (length-append (text x) (cells_text text cells)) (omega (arith, short x, length-cells-le cells))

  -- what the call wrote, and the cells after it as they were
  pub shown : (step : OpenBox → OpenBox) (gives : OpenBox → List A) (count written : ℕ) {b held : OpenBox} {filled len : ℕ} {cells part : List A} {before after : List ℕ}
      → length part ≤ 2048 → FillsIn ValidBox step gives count written b cells (record { state = held; filled = filled }) part
      → Laid before 0 (numbered_text 4 filled text part) after len → Shows (filled_over text step gives count written cells b) before after held len
  unfolding filled_over
  shown step gives count written {filled = filled} {part = part} few f t =
      let room : 0 + length (numbered_text 4 filled text part) ≤ 262144 = simp (length-append, length-hex_of) (omega (arith, few, length-cells-le part)) in
      record { laid = rw (f.count, f.content) at (all t room); held = f.state.same }

-- the digits of each kind of cell
pub short-u8 : Short byte_text
short-u8 x = omega (arith, length-hex_of 2 x)

pub short-u16 : Short wide_text
short-u16 x = omega (arith, length-hex_of 4 x)

pub short-i8 : Short i8_text
short-i8 z = omega (arith, length-hex_of 2 (of_z w8 z))

pub short-i16 : Short i16_text
short-i16 z = omega (arith, length-hex_of 4 (of_z w16 z))

pub short-i32 : Short i32_text
short-i32 z = omega (arith, length-hex_of 8 (of_z w32 z))

-- the first n of blank cells
take-replicate : {A : Type 0} (k n : ℕ) (x : A) → n ≤ k → take n (replicate k x) ≡ replicate n x
take-replicate k zero x h = refl
take-replicate zero (suc n) x h = absurd (omega arith)
take-replicate {A} (suc k) (suc n) x h = ap (λ (l : List A). x ∷ l) (take-replicate k n x (omega arith))

pub length-blank : {A : Type 0} (n : ℕ) (x : A) → n ≤ 2048 → length (take n (replicate 2048 x)) ≡ n
length-blank n x h = ap length (take-replicate 2048 n x h) ∙ length-replicate n x

pub blank_cells : {A : Type 0} (text : A → List ℕ) (blank : A) (scale : ℤ → A) (shape : Shape) (n : ℕ) (bytes : List ℕ) (b : OpenBox) {held : OpenBox} {before after : List ℕ} {len : ℕ}
    → n ≤ 2048 → (let cells = take n (replicate 2048 blank) in Shows (shaped_over text scale shape (length cells) cells bytes b) before after held len)
    → Shows (shaped_fill text blank scale shape n bytes b) before after held len
blank_cells text blank scale shape n bytes b h w = rw (length-blank n blank h, take-replicate 2048 n blank h) at w

pub blank_levels : (level : Level) (n : ℕ) (bytes : List ℕ) {b held : OpenBox} {before after part : List ℕ} {filled len : ℕ}
    → n ≤ 2048 → (let cells = take n (replicate 2048 blank_u16) in length part ≡ length cells × Levels level bytes b cells filled held part)
    → Laid before 0 (numbered_text 4 filled wide_text part) after len → Shows (level_fill level n bytes b) before after held len
blank_levels level n bytes h f t =
    let f' = rw (length-blank n blank_u16 h, take-replicate 2048 n blank_u16 h) at f in
    let few = length-blank n blank_u16 h in
    shown wide_text short-u16 (level_next (frames bytes) level) (level_cell (frames bytes) level) n n (omega (arith, f.0, few)) f'.1 t
