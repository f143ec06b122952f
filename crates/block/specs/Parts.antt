-- Inner: a block in parts, as the code cuts it. Assumes nothing.
use Rattle.std.specs.Prelude.{ℕ, ◌+◌, ◌-◌, ◌*◌, ◌≤◌, ◌<◌, ◌≡◌, Bool, true, false, cond, List, ℤ, pos, set}
use Rattle.frame.specs.Fades.{fade_at, voice_at}
use Rattle.frame.specs.Frames.{mono_frame_by, stereo_frame_by}
use Rattle.marks.specs.declared.Marks.{Marks}
use Rattle.marks.specs.declared.Present.{Present}
use Rattle.frame.specs.Presents.{stereo_next, right_side}
use Rattle.frame.specs.Runs.{mono_step, stereo_step}
use Rattle.laws.specs.Lists.{map_first}
use Rattle.laws.specs.Made.{Made}
use Rattle.laws.specs.Runs.{after}
use Rattle.mixer.specs.Mixers.{Valid, with_voices}
use Rattle.mixer.specs.declared.Mixer.{Mixer}
use Rattle.voice.specs.Voices.{ticked_voice}
use Rattle.block.specs.Blocks.{ValidInside, next_of, left_of}
use Rattle.block.specs.Cells.{Written}

-- ---- a part of a block: its len frames stand from cell `at` on

-- the sample at cell j
abbrev pub frame_at : {State : Type 0} → (State → State) → (State → ℤ) → State → ℕ → ℕ → ℤ
frame_at step sample s at j = sample (after step (j - at) s)

-- Frames in which no fade ends: the marks stay as they are.

-- the mixer's frames, of two sides or one, and the sample of the left or only one
abbrev pub step_of : Bool → Mixer → Mixer
step_of true = stereo_step
step_of false = mono_step

abbrev pub left_by : Bool → Marks → Mixer → ℤ
left_by true k m = (stereo_frame_by k m).left
left_by false k m = (mono_frame_by k m).pcm

pub record MonoPart (k : Marks) (m : Mixer) (at len : ℕ) (was : List ℤ) (out : Mixer) (is : List ℤ) : Type 0 where
  pub mixer : Made Valid (after mono_step len m) out
  pub cells : Written (pos 0) (frame_at mono_step (λ m. (mono_frame_by k m).pcm) m at) at (at + len) was is

-- the right side's cells, which mono frames leave alone
abbrev pub RightPart : Bool → Marks → Mixer → ℕ → ℕ → List ℤ → List ℤ → Type 0
RightPart true k m at len was is = Written (pos 0) (frame_at stereo_step (λ m. (stereo_frame_by k m).right) m at) at (at + len) was is
RightPart false k m at len was is = is ≡ was

pub record Part (sides : Bool) (k : Marks) (m : Mixer) (at len : ℕ) (left_was right_was : List ℤ) (out : Mixer) (left_is right_is : List ℤ) : Type 0 where
  pub mixer : Made Valid (after (step_of sides) len m) out
  pub left : Written (pos 0) (frame_at (step_of sides) (left_by sides k) m at) at (at + len) left_was left_is
  pub right : RightPart sides k m at len right_was right_is

-- Any frames of a box.
abbrev pub RightStretch : Bool → Present → ℕ → ℕ → List ℤ → List ℤ → Type 0
RightStretch true p at len was is = Written (pos 0) (frame_at stereo_next right_side p at) at (at + len) was is
RightStretch false p at len was is = is ≡ was

pub record Stretch (sides : Bool) (p : Present) (at len : ℕ) (left_was right_was : List ℤ) (out : Present) (left_is right_is : List ℤ) : Type 0 where
  pub state : Made ValidInside (after (next_of sides) len p) out
  pub left : Written (pos 0) (frame_at (next_of sides) (left_of sides) p at) at (at + len) left_was left_is
  pub right : RightStretch sides p at len right_was right_is

-- ---- the fade in a block

-- no fade, or one that goes on after len frames
abbrev pub Slow : Mixer → ℕ → Type 0
Slow m len = m.crossfade_active ≡ true → 0 < len → m.crossfade_t_q8 + len * m.crossfade_step_q8 < 255

-- of len frames the first r end no fade, and the next ends one
pub record FadeFrames (active : Bool) (t step len r : ℕ) : Type 0 where
  pub most : r ≤ len
  pub goes : active ≡ true → 0 < r → t + r * step < 255
  pub ends : r < len → (active ≡ true) × (255 ≤ t + r * step + step)

-- what a frame adds to t
abbrev pub pace : Mixer → ℕ
pace m = cond m.crossfade_active m.crossfade_step_q8 0

abbrev pub moved_on : Mixer → ℕ → Mixer
moved_on m len = fade_at m (m.crossfade_t_q8 + len * pace m)

-- the voices but 0 and 1 after len ticks
abbrev pub rested_others : Mixer → ℕ → Mixer
rested_others m len = with_voices m (set (set (map_first (after ticked_voice len) m.n m.voices) 0 (voice_at m 0)) 1 (voice_at m 1))
