-- Document 02, T-08: "At the start of a frame, before the fade advances, while a voice is free, the highest priority goes in". A buffer of such frames.
-- Assumes nothing.
use Rattle.std.specs.Prelude.{ℕ, List, ℤ}
use Rattle.buffers.specs.Buffers.{Done}
use Rattle.buffers.specs.Shapes.{Frames, settled_frames, FillsShape, FillsLevel}
use Rattle.buffers.specs.declared.Level.{Level}
use Rattle.buffers.specs.declared.Shape.{Shape}
use Rattle.entering.specs.Entering.{entered_in}
use Rattle.entering.specs.Lined.{Valid}
use Rattle.entering.specs.declared.Lined.{Lined}
use Rattle.spans.specs.Frames.{framed_lined}
use Rattle.filling.specs.declared.LinedFilled.{LinedFilled}

-- the frames of a state with its line: those that wait go in, then the frame as before
abbrev pub lined_frames : List ℕ → Frames Lined
lined_frames bytes =
    let f = settled_frames in
    record {
      mono = framed_lined f.mono bytes;
      duty = framed_lined f.duty bytes;
      stereo = framed_lined f.stereo bytes;
      pcm = λ s. f.pcm (entered_in bytes s).present;
      level = λ s. f.level (entered_in bytes s).present;
      left = λ s. f.left (entered_in bytes s).present;
      right = λ s. f.right (entered_in bytes s).present;
    }

abbrev pub filled_in : LinedFilled → Done Lined
filled_in r = record { state = r.lined; filled = r.filled }

-- by the shape of a frame and the scale of its cells, or by the level of a cell without a sign
abbrev pub Fills : {A : Type 0} → (ℤ → A) → Shape → List ℕ → Lined → List A → LinedFilled → List A → Type 0
Fills scale shape bytes s cells r filled = FillsShape (lined_frames bytes) Valid scale shape s cells (filled_in r) filled

abbrev pub Levels : Level → List ℕ → Lined → List ℕ → LinedFilled → List ℕ → Type 0
Levels level bytes s cells r filled = FillsLevel (lined_frames bytes) Valid level s cells (filled_in r) filled
