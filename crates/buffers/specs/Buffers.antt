-- Buffers that frames fill. Assumes nothing.
use Rattle.std.specs.Prelude.{ℕ, ◌*◌, ◌/◌, ◌≡◌, List, [], ◌∷◌, ◌++◌, ℤ, pos, ◌*ℤ◌, length, drop}
use Rattle.frame.specs.Frames.{mono_frame, stereo_frame}
use Rattle.laws.specs.Made.{Made}
use Rattle.laws.specs.Runs.{after, given}
use Rattle.mixer.specs.Mixers.{Valid}
use Rattle.mixer.specs.declared.Mixer.{Mixer}
use Rattle.output.specs.Levels.{raised}

-- a state after a buffer was filled, and how many cells were written
pub record Done (State : Type 0) : Type 0 where
  pub state : State
  pub filled : ℕ

module _ {State A : Type 0} (Good : State → Type 0) (step : State → State) (gives : State → List A) where
  -- so many frames, the cells that they gave from the front on, the cells after them as they were; "a filled length counts the
  -- cells written"
  pub record FillsIn (frames written : ℕ) (s : State) (cells : List A) (r : Done State) (filled : List A) : Type 0 where
    pub state : Made Good (after step frames s) r.state
    pub count : r.filled ≡ written
    pub content : filled ≡ given step gives frames s ++ drop written cells

-- of document 01's states
module _ {A : Type 0} (step : Mixer → Mixer) (gives : Mixer → List A) where
  abbrev pub Fills : ℕ → ℕ → Mixer → List A → Done Mixer → List A → Type 0
  Fills frames written m cells r filled = FillsIn Valid step gives frames written m cells r filled

  -- a frame for each cell
  abbrev pub FillsAll : Mixer → List A → Done Mixer → List A → Type 0
  FillsAll m cells r filled = Fills (length cells) (length cells) m cells r filled

  -- a frame for each pair; "An odd last stereo cell is not written"
  abbrev pub FillsPairs : Mixer → List A → Done Mixer → List A → Type 0
  FillsPairs m cells r filled = Fills (length cells / 2) (length cells / 2 * 2) m cells r filled

-- ---- what a frame gives to a buffer, by the scale of its cells

-- the sample itself, "written × 256", and the source's 32-bit scale
abbrev pub to_i8 : ℤ → ℤ
to_i8 s = s

abbrev pub to_i16 : ℤ → ℤ
to_i16 s = s *ℤ pos 256

abbrev pub to_i32 : ℤ → ℤ
to_i32 s = s *ℤ pos 0x100_0000

-- the source's scales without a sign
abbrev pub to_u12 : ℤ → ℕ
to_u12 s = raised s * 4095 / 255

abbrev pub to_u16 : ℤ → ℕ
to_u16 s = raised s * 256

module _ {A : Type 0} (scale : ℤ → A) where
  -- the mono sample once, or on both sides
  abbrev pub once : Mixer → List A
  once m = scale (mono_frame m).pcm ∷ []

  abbrev pub doubled : Mixer → List A
  doubled m = let s = scale (mono_frame m).pcm in s ∷ s ∷ []

  -- left and right
  abbrev pub sides : Mixer → List A
  sides m = scale (stereo_frame m).left ∷ scale (stereo_frame m).right ∷ []
