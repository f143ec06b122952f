-- A frame of the box, and a buffer of frames: "Frame calls now lend the bank's bytes as play does." Assumes nothing.
use Rattle.std.specs.Prelude.{ℕ, List, ℤ, pos, ◌*ℤ◌}
use Rattle.buffers.specs.Shapes.{Frames, FillsShape, FillsLevel}
use Rattle.buffers.specs.declared.Level.{Level}
use Rattle.buffers.specs.declared.Shape.{Shape}
use Rattle.entering.specs.Lined.{Valid}
use Rattle.entering.specs.declared.Lined.{Lined}
use Rattle.filling.specs.Frames.{lined_frames}
use Rattle.sounder.specs.Sounders.{After}

-- the frames of the box: at the start of each those that wait go in, while a voice is free; then the frame as before (`filling/Frames`)
abbrev pub frames : List ℕ → Frames Lined
frames = lined_frames

-- ---- the calls of one frame: its sample, the sample's duty, or both sides
abbrev pub sample_box : List ℕ → Lined → After ℤ
sample_box bytes s = let f = frames bytes in record { gave = f.pcm s; lined = f.mono s }

abbrev pub duty_box : List ℕ → Lined → After ℕ
duty_box bytes s = let f = frames bytes in record { gave = f.level s; lined = f.duty s }

abbrev pub sides_box : List ℕ → Lined → After (ℤ × ℤ)
sides_box bytes s = let f = frames bytes in record { gave = (f.left s, f.right s); lined = f.stereo s }

-- each side "written × 256"
abbrev pub wide_sides : After (ℤ × ℤ) → After (ℤ × ℤ)
wide_sides x = record { gave = (x.gave.0 *ℤ pos 256, x.gave.1 *ℤ pos 256); lined = x.lined }

-- ---- the buffer calls: the state after one, and how many cells were written

-- by the shape of a frame and the scale of its cells, or by the level of a cell without a sign
abbrev pub Fills : {A : Type 0} → (ℤ → A) → Shape → List ℕ → Lined → List A → ℕ → Lined → List A → Type 0
Fills scale shape bytes s cells n after filled = FillsShape (frames bytes) Valid scale shape s cells (record { state = after; filled = n }) filled

abbrev pub Levels : Level → List ℕ → Lined → List ℕ → ℕ → Lined → List ℕ → Type 0
Levels level bytes s cells n after filled = FillsLevel (frames bytes) Valid level s cells (record { state = after; filled = n }) filled
