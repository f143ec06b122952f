-- How frames become cells: by the shape of a frame, or by the level of a cell without a sign. Assumes nothing.
use Rattle.std.specs.Prelude.{ℕ, ◌*◌, ◌/◌, Bool, true, false, List, [], ◌∷◌, map, ℤ, length}
use Rattle.block.specs.Blocks.{ValidInside}
use Rattle.frame.specs.Frames.{mono_frame, duty_frame, stereo_frame}
use Rattle.frame.specs.Presents.{mono_next, duty_next, stereo_next, pcm_of, duty_of, left_side, right_side}
use Rattle.frame.specs.Runs.{mono_step, duty_step, stereo_step}
use Rattle.marks.specs.Marks.{settled}
use Rattle.marks.specs.declared.Present.{Present}
use Rattle.mixer.specs.Mixers.{Valid}
use Rattle.mixer.specs.declared.Mixer.{Mixer}
use Rattle.buffers.specs.Buffers.{Done, FillsIn, to_u12, to_u16}
use Rattle.buffers.specs.declared.Filled.{Filled}
use Rattle.buffers.specs.declared.Level.{Level}
use Rattle.buffers.specs.declared.Level.TheVariants.{Duty, U12, U16}
use Rattle.buffers.specs.declared.Shape.{Shape}
use Rattle.buffers.specs.declared.Shape.TheVariants.{Once, Doubled, Sides}

-- The frames of a box: the state after one of each kind, and what it gives.
pub record Frames (State : Type 0) : Type 0 where
  pub mono : State → State
  pub duty : State → State
  pub stereo : State → State
  pub pcm : State → ℤ
  pub level : State → ℕ
  pub left : State → ℤ
  pub right : State → ℤ

-- of document 01's box, and of one of the present rules
abbrev pub mixer_frames : Frames Mixer
mixer_frames =
    record {
      mono = mono_step;
      duty = duty_step;
      stereo = stereo_step;
      pcm = λ m. (mono_frame m).pcm;
      level = λ m. (duty_frame m).duty;
      left = λ m. (stereo_frame m).left;
      right = λ m. (stereo_frame m).right;
    }

abbrev pub present_frames : Frames Present
present_frames =
    record { mono = mono_next; duty = duty_next; stereo = stereo_next; pcm = pcm_of; level = duty_of; left = left_side; right = right_side }

-- the same, each frame settled: nothing stands beside a voice that it left inaudible
abbrev pub settled_frames : Frames Present
settled_frames =
    record {
      mono = λ p. settled (mono_next p);
      duty = λ p. settled (duty_next p);
      stereo = λ p. settled (stereo_next p);
      pcm = pcm_of;
      level = duty_of;
      left = left_side;
      right = right_side;
    }

-- ---- a shape: how many cells a frame has, its step and its samples
abbrev pub wide : Shape → ℕ
wide Once = 1
wide Doubled = 2
wide Sides = 2

abbrev pub frames_in : Shape → ℕ → ℕ
frames_in Once n = n
frames_in Doubled n = n / 2
frames_in Sides n = n / 2

abbrev pub cells_in : Shape → ℕ → ℕ
cells_in Once n = n
cells_in Doubled n = n / 2 * 2
cells_in Sides n = n / 2 * 2

abbrev pub sides_of : Shape → Bool
sides_of Once = false
sides_of Doubled = false
sides_of Sides = true

module _ {State : Type 0} (f : Frames State) where
  abbrev pub shape_step : Shape → State → State
  shape_step Once = f.mono
  shape_step Doubled = f.mono
  shape_step Sides = f.stereo

  abbrev pub shape_raw : Shape → State → List ℤ
  shape_raw Once s = f.pcm s ∷ []
  shape_raw Doubled s = f.pcm s ∷ f.pcm s ∷ []
  shape_raw Sides s = f.left s ∷ f.right s ∷ []

  -- ---- a level: its step and its cell
  abbrev pub level_next : Level → State → State
  level_next Duty = f.duty
  level_next U12 = f.mono
  level_next U16 = f.mono

  abbrev pub level_cell : Level → State → List ℕ
  level_cell Duty s = f.level s ∷ []
  level_cell U12 s = to_u12 (f.pcm s) ∷ []
  level_cell U16 s = to_u16 (f.pcm s) ∷ []

  -- ---- a buffer filled so, by a box whose states are good ones
  module _ (Good : State → Type 0) where
    abbrev pub FillsShape : {A : Type 0} → (ℤ → A) → Shape → State → List A → Done State → List A → Type 0
    FillsShape scale shape s cells r filled =
        FillsIn Good (shape_step shape) (λ s. map scale (shape_raw shape s)) (frames_in shape (length cells)) (cells_in shape (length cells)) s cells r filled

    abbrev pub FillsLevel : Level → State → List ℕ → Done State → List ℕ → Type 0
    FillsLevel level s cells r filled = FillsIn Good (level_next level) (level_cell level) (length cells) (length cells) s cells r filled

-- ---- document 01's
abbrev pub frame_step : Shape → Mixer → Mixer
frame_step shape = shape_step mixer_frames shape

abbrev pub raw_of : Shape → Mixer → List ℤ
raw_of shape m = shape_raw mixer_frames shape m

abbrev pub FillsBy : {A : Type 0} → (ℤ → A) → Shape → Mixer → List A → Done Mixer → List A → Type 0
FillsBy scale shape m cells r filled = FillsShape mixer_frames Valid scale shape m cells r filled

abbrev pub level_step : Level → Mixer → Mixer
level_step level = level_next mixer_frames level

abbrev pub level_of : Level → Mixer → List ℕ
level_of level m = level_cell mixer_frames level m

-- ---- what the loops over blocks give
abbrev pub done_by : Filled → Done Present
done_by r = record { state = r.state; filled = r.filled }

abbrev pub FillsFrom : {A : Type 0} → (ℤ → A) → Shape → Present → List A → Filled → List A → Type 0
FillsFrom scale shape p cells r filled = FillsShape present_frames ValidInside scale shape p cells (done_by r) filled

abbrev pub LevelsFrom : Level → Present → List ℕ → Filled → List ℕ → Type 0
LevelsFrom level p cells r filled = FillsLevel present_frames ValidInside level p cells (done_by r) filled
