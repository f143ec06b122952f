-- The frames of the box that a script has open, each lent the bank's bytes, which document 01's does not look at. Assumes nothing.
use Rattle.std.specs.Prelude.{ℕ, List, ℤ}
use Rattle.buffers.specs.Shapes.{Frames, mixer_frames, FillsShape, FillsLevel}
use Rattle.buffers.specs.declared.Level.{Level}
use Rattle.buffers.specs.declared.Shape.{Shape}
use Rattle.entering.specs.declared.Lined.{Lined}
use Rattle.engine.specs.Ticks as T
use Rattle.frame.specs.Frames.{mono_frame, duty_frame, stereo_frame}
use Rattle.frame.specs.declared.DutyFrame.{DutyFrame}
use Rattle.frame.specs.declared.MonoFrame.{MonoFrame}
use Rattle.frame.specs.declared.StereoFrame.{StereoFrame}
use Rattle.mixer.specs.declared.Mixer.{Mixer}
use Rattle.sounder.specs.Frames as K
use Rattle.replay_box.specs.Boxes.{ValidBox, Gave, sounder_gave}
use Rattle.replay_box.specs.declared.OpenBox.{OpenBox}
use Rattle.replay_box.specs.declared.OpenBox.TheVariants.{Engine, Sounder}

module _ {A : Type 0} where
  -- what a frame of either box gives
  unfoldable pub of : (Frames Lined → Lined → A) → (Frames Mixer → Mixer → A) → List ℕ → OpenBox → A
  of new old bytes (Engine m) = old mixer_frames m
  of new old bytes (Sounder s) = new (K.frames bytes) s

-- the open box after a step of either
unfoldable pub stepped : (Lined → Lined) → (Mixer → Mixer) → OpenBox → OpenBox
stepped new old (Engine m) = Engine (old m)
stepped new old (Sounder s) = Sounder (new s)

abbrev pub frames : List ℕ → Frames OpenBox
frames bytes =
    let f = K.frames bytes in
    record {
      mono = stepped f.mono mixer_frames.mono;
      duty = stepped f.duty mixer_frames.duty;
      stereo = stepped f.stereo mixer_frames.stereo;
      pcm = of (λ f. f.pcm) (λ f. f.pcm) bytes;
      level = of (λ f. f.level) (λ f. f.level) bytes;
      left = of (λ f. f.left) (λ f. f.left) bytes;
      right = of (λ f. f.right) (λ f. f.right) bytes;
    }

-- ---- one frame, with what it gives: the sample, its duty or both sides
abbrev pub engine_sample : MonoFrame → Gave ℤ
engine_sample f = record { held = Engine f.mixer; gave = f.pcm }

unfoldable pub sampled : List ℕ → OpenBox → Gave ℤ
sampled bytes (Engine m) = engine_sample (mono_frame m)
sampled bytes (Sounder s) = sounder_gave (K.sample_box bytes s)

abbrev pub engine_duty : DutyFrame → Gave ℕ
engine_duty f = record { held = Engine f.mixer; gave = f.duty }

unfoldable pub dutied : List ℕ → OpenBox → Gave ℕ
dutied bytes (Engine m) = engine_duty (duty_frame m)
dutied bytes (Sounder s) = sounder_gave (K.duty_box bytes s)

abbrev pub engine_sides : StereoFrame → Gave (ℤ × ℤ)
engine_sides f = record { held = Engine f.mixer; gave = (f.left, f.right) }

unfoldable pub sided : List ℕ → OpenBox → Gave (ℤ × ℤ)
sided bytes (Engine m) = engine_sides (stereo_frame m)
sided bytes (Sounder s) = sounder_gave (K.sides_box bytes s)

unfoldable pub wide_sided : List ℕ → OpenBox → Gave (ℤ × ℤ)
wide_sided bytes (Engine m) = engine_sides (T.wide_sides (stereo_frame m))
wide_sided bytes (Sounder s) = sounder_gave (K.wide_sides (K.sides_box bytes s))

-- ---- buffers of frames: by the shape of a frame and the scale of its cells, or by the level of a cell without a sign
abbrev pub Fills : {A : Type 0} → (ℤ → A) → Shape → List ℕ → OpenBox → List A → ℕ → OpenBox → List A → Type 0
Fills scale shape bytes b cells count after filled =
    FillsShape (frames bytes) ValidBox scale shape b cells (record { state = after; filled = count }) filled

abbrev pub Levels : Level → List ℕ → OpenBox → List ℕ → ℕ → OpenBox → List ℕ → Type 0
Levels level bytes b cells count after filled = FillsLevel (frames bytes) ValidBox level b cells (record { state = after; filled = count }) filled
