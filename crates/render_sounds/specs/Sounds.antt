-- What a line of a replay script sounds like, in 16-bit stereo cells, left before right. Assumes nothing.
use Rattle.std.specs.Prelude.{ℕ, ◌/◌, ◌≡◌, Bool, cond, ◌&&◌, ◌||◌, List, [], ◌++◌, map, leb, eqb, ℤ, length, drop, None, Option, Some, is_some}
use Rattle.laws.specs.Runs.{given}
use Rattle.buffers.specs.Buffers.{to_i16}
use Rattle.buffers.specs.Shapes.{shape_step, shape_raw}
use Rattle.buffers.specs.declared.Shape.{Shape}
use Rattle.buffers.specs.declared.Shape.TheVariants.{Doubled, Sides}
use Rattle.hex_digits.specs.Hex.{byte_at, wide_at}
use Rattle.replay_box.specs.Frames.{frames}
use Rattle.replay_box.specs.declared.OpenBox.{OpenBox}
use Rattle.replay_calls.specs.Calls.{sized_as}
use Rattle.replay_fills.specs.Fills.{buffer_of}
use Rattle.replay_session.specs.Runs.{Run, lent_in}
use Rattle.replay_session.specs.Sessions.{fill_allowed, is_line}

-- 29, 2A, 2B and 68 make stereo frames, every other record mono ones
abbrev pub is_stereo : ℕ → Bool
is_stereo code = eqb code 0x68 || (leb 0x29 code && leb code 0x2B)

-- a mono frame sounds on both sides
abbrev pub shape_of : ℕ → Shape
shape_of code = cond (is_stereo code) Sides Doubled

-- 20 to 26 make a frame for each cell, 27 to 2A one for each pair: "an odd last stereo cell is not written"
unfoldable pub filled_frames : ℕ → List ℕ → ℕ
filled_frames code l = cond (fill_allowed l) (cond (leb code 0x26) (wide_at l 1) (wide_at l 1 / 2)) 0

-- 2B, 2C, and 66 to 68, which have no fields, make one frame
abbrev pub is_one_frame : ℕ → List ℕ → Bool
is_one_frame code l = sized_as 0 l && (eqb code 0x2B || eqb code 0x2C || eqb code 0x66 || eqb code 0x67 || eqb code 0x68)

-- every other record makes none
unfoldable pub frames_for : ℕ → List ℕ → ℕ
frames_for code l = cond (is_some (buffer_of code)) (filled_frames code l) (cond (is_one_frame code l) 1 0)

-- a line that is no line of a script makes none
unfoldable pub frames_of : List ℕ → ℕ
frames_of l = cond (is_line l) (frames_for (byte_at l 0) l) 0

-- the cells of n frames of a box
abbrev pub cells_of : Shape → ℕ → List ℕ → OpenBox → List ℤ
cells_of shape n bytes b = given (shape_step (frames bytes) shape) (λ b. map to_i16 (shape_raw (frames bytes) shape b)) n b

-- what a line sounds like, from the run before it; before a box is open nothing sounds
abbrev pub sound_by : List ℕ → List ℕ → Option OpenBox → List ℤ
sound_by bytes l None = []
sound_by bytes l (Some b) = cells_of (shape_of (byte_at l 0)) (frames_of l) bytes b

unfoldable pub sound_of : Run → List ℕ → List ℤ
sound_of s l = sound_by (lent_in s) l s.held

-- so many cells at the front of a buffer, and the rest as before
pub record Sounds (cells before after : List ℤ) (r : ℕ) : Type 0 where
  pub count : r ≡ length cells
  pub content : after ≡ cells ++ drop (length cells) before
