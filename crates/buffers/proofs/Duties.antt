-- The mapper takes no part in a mono frame, so cells at a level are the mapper over the frames' samples. Assumes nothing.
use Prim.Native.Nat.{ℕ, zero, suc}
use mathlib.Core.Path.{◌≡◌, refl, ◌∙◌, ap}
use mathlib.Core.Bool.{Bool, true, false, cond}
use mathlib.Core.List.{List, [], ◌∷◌, ◌++◌}
use lib.Dec.{eqb}
use lib.IntN.{ℤ}
use Rattle.laws.specs.Runs.{after, given}
use Rattle.config.specs.declared.AudioConfig.{AudioConfig}
use Rattle.marks.specs.declared.Marks.{Marks}
use Rattle.marks.specs.declared.Present.{Present}
use Rattle.mixer.specs.declared.Mixer.{Mixer}
use Rattle.output.specs.declared.PwmMapper.{PwmMapper}
use Rattle.frame.specs.Fades.{fade_ended_with, fade_ended_by, fade_at, next_t, advanced_by, marks_advanced}
use Rattle.frame.specs.Frames.{enveloped, sampled, mono_mix, with_mapper, mono_given, mono_frame_by, duty_frame_by}
use Rattle.frame.specs.Presents.{mono_next, pcm_of}
use Rattle.frame.specs.declared.MonoFrame.{MonoFrame}
use Rattle.buffers.specs.Blocks.{leveled, mapper_over, levels_over, row}
use Rattle.buffers.specs.Shapes.{present_frames, level_next, level_cell}
use Rattle.buffers.specs.declared.Level.{Level}
use Rattle.buffers.specs.declared.Level.TheVariants.{Duty, U12, U16}

-- ---- a mono frame with another mapper
abbrev mapper_in : MonoFrame → PwmMapper → MonoFrame
mapper_in f p = record { mixer = with_mapper f.mixer p; pcm = f.pcm }

advance-mapper : (on : Bool) (m : Mixer) (p : PwmMapper) → advanced_by on (with_mapper m p) ≡ with_mapper (advanced_by on m) p
unfolding advanced_by fade_ended_with fade_at
advance-mapper on m p = by-active m.crossfade_active
  where
    by_end : (e : Bool) → cond e (fade_ended_by on (with_mapper m p)) (fade_at (with_mapper m p) (next_t m)) ≡ with_mapper (cond e (fade_ended_by on m) (fade_at m (next_t m))) p
    by_end true = refl
    by_end false = refl

    by-active : (a : Bool) → cond a (cond (eqb (next_t m) 255) (fade_ended_by on (with_mapper m p)) (fade_at (with_mapper m p) (next_t m))) (with_mapper m p)
        ≡ with_mapper (cond a (cond (eqb (next_t m) 255) (fade_ended_by on m) (fade_at m (next_t m))) m) p
    by-active true = by_end (eqb (next_t m) 255)
    by-active false = refl

given-mapper : (k : Marks) (m : Mixer) (p : PwmMapper) → mono_given k (enveloped (with_mapper m p)) ≡ mapper_in (mono_given k (enveloped m)) p
unfolding enveloped sampled mono_mix
given-mapper k m p = refl

mono-mapper : (k : Marks) (m : Mixer) (p : PwmMapper) → mono_frame_by k (with_mapper m p) ≡ mapper_in (mono_frame_by k m) p
unfolding mono_frame_by marks_advanced
mono-mapper k m p = rw (advance-mapper k.sounds_on m p) (given-mapper (marks_advanced m k) (advanced_by k.sounds_on m) p)

-- a state with another mapper
abbrev pub mapper_at : Present → PwmMapper → Present
mapper_at s p = record { mixer = with_mapper s.mixer p; marks = s.marks }

-- it keeps mapper and configuration
advance-keeps : (on : Bool) (m : Mixer) → ((advanced_by on m).mapper ≡ m.mapper) × ((advanced_by on m).config ≡ m.config)
unfolding advanced_by fade_ended_with fade_at
advance-keeps on m = by-active m.crossfade_active
  where
    by_end : (e : Bool) → ((cond e (fade_ended_by on m) (fade_at m (next_t m))).mapper ≡ m.mapper) × ((cond e (fade_ended_by on m) (fade_at m (next_t m))).config ≡ m.config)
    by_end true = (refl, refl)
    by_end false = (refl, refl)

    by-active : (a : Bool) → let b = cond a (cond (eqb (next_t m) 255) (fade_ended_by on m) (fade_at m (next_t m))) m in (b.mapper ≡ m.mapper) × (b.config ≡ m.config)
    by-active true = by_end (eqb (next_t m) 255)
    by-active false = (refl, refl)

mono-keeps : (s : Present) → ((mono_next s).mixer.mapper ≡ s.mixer.mapper) × ((mono_next s).mixer.config ≡ s.mixer.config)
unfolding mono_frame_by enveloped sampled
mono-keeps s = advance-keeps s.marks.sounds_on s.mixer

-- ---- and frame after frame
run-keeps : (n : ℕ) (s : Present) → ((after mono_next n s).mixer.mapper ≡ s.mixer.mapper) × ((after mono_next n s).mixer.config ≡ s.mixer.config)
unfolding after
run-keeps zero s = (refl, refl)
run-keeps (suc n) s =
    let h = run-keeps n (mono_next s) in
    let k = mono-keeps s in
    (h.0 ∙ k.0, h.1 ∙ k.1)

step-mapper : (s : Present) (p : PwmMapper) → mono_next (mapper_at s p) ≡ mapper_at (mono_next s) p
unfolding marks_advanced
step-mapper s p =
    ap (λ (f : MonoFrame). record { mixer = f.mixer; marks = marks_advanced s.mixer s.marks }) (mono-mapper s.marks s.mixer p)

after-mapper : (n : ℕ) (s : Present) (p : PwmMapper) → after mono_next n (mapper_at s p) ≡ mapper_at (after mono_next n s) p
unfolding after
after-mapper zero s p = refl
after-mapper (suc n) s p = ap (after mono_next n) (step-mapper s p) ∙ after-mapper n (mono_next s) p

row-mapper : (n : ℕ) (s : Present) (p : PwmMapper) → row mono_next pcm_of n (mapper_at s p) ≡ row mono_next pcm_of n s
unfolding given
row-mapper zero s p = refl
row-mapper (suc n) s p =
    ap (λ (z : ℤ). z ∷ row mono_next pcm_of n (mono_next (mapper_at s p))) (ap (λ (f : MonoFrame). f.pcm) (mono-mapper s.marks s.mixer p))
    ∙ ap (λ (l : List ℤ). pcm_of s ∷ l) (ap (row mono_next pcm_of n) (step-mapper s p) ∙ row-mapper n (mono_next s) p)

abbrev period : Present → ℕ
period s = s.mixer.config.pwm_period

-- the mapper after the first sample, under a mapper and a configuration
abbrev next : Level → Present → PwmMapper → AudioConfig → PwmMapper
next l s p c = (leveled l c.pwm_period p (pcm_of s)).mapper

abbrev step_of : Level → Present → Present
step_of l = level_next present_frames l

abbrev cell_of : Level → Present → List ℕ
cell_of l = level_cell present_frames l

-- a frame of a level, and its cell
level-step : (l : Level) (s : Present) → step_of l s ≡ mapper_at (mono_next s) (next l s (mono_next s).mixer.mapper (mono_next s).mixer.config)
unfolding duty_frame_by
level-step Duty s = refl
level-step U12 s = refl
level-step U16 s = refl

level-cell : (l : Level) (s : Present) → cell_of l s ≡ (leveled l (period (mono_next s)) (mono_next s).mixer.mapper (pcm_of s)).duty ∷ []
unfolding duty_frame_by
level-cell Duty s = refl
level-cell U12 s = refl
level-cell U16 s = refl

module _ (l : Level) where
  level-after : (n : ℕ) (s : Present) → after (step_of l) n s ≡ mapper_at (after mono_next n s) (mapper_over l (period s) s.mixer.mapper (row mono_next pcm_of n s))
  unfolding after given mapper_over
  level-after zero s = refl
  level-after (suc n) s =
      let k = mono-keeps s in
      let x = mono_next s in
      let q = next l s x.mixer.mapper x.mixer.config in
      ap (after (step_of l) n) (level-step l s)
      ∙ level-after n (mapper_at x q)
      ∙ ap (λ (y : Present). mapper_at y (mapper_over l (period x) q (row mono_next pcm_of n (mapper_at x q)))) (after-mapper n x q)
      ∙ ap (λ (r : List ℤ). mapper_at (after mono_next n x) (mapper_over l (period x) q r)) (row-mapper n x q)
      ∙ ap (λ (a : PwmMapper). mapper_at (after mono_next n x) (mapper_over l (period x) (next l s a x.mixer.config) (row mono_next pcm_of n x))) k.0
      ∙ ap (λ (c : AudioConfig). mapper_at (after mono_next n x) (mapper_over l c.pwm_period (next l s s.mixer.mapper c) (row mono_next pcm_of n x))) k.1

  level-given : (n : ℕ) (s : Present) → given (step_of l) (cell_of l) n s ≡ levels_over l (period s) s.mixer.mapper (row mono_next pcm_of n s)
  unfolding given levels_over
  level-given zero s = refl
  level-given (suc n) s =
      let k = mono-keeps s in
      let x = mono_next s in
      let q = next l s x.mixer.mapper x.mixer.config in
      ap (λ (d : List ℕ). d ++ given (step_of l) (cell_of l) n (step_of l s)) (level-cell l s)
      ∙ ap (λ (r : List ℕ). (leveled l (period x) x.mixer.mapper (pcm_of s)).duty ∷ r)
      (ap (given (step_of l) (cell_of l) n) (level-step l s)
      ∙ level-given n (mapper_at x q)
      ∙ ap (levels_over l (period x) q) (row-mapper n x q))
      ∙ ap (λ (a : PwmMapper). (leveled l (period x) a (pcm_of s)).duty ∷ levels_over l (period x) (next l s a x.mixer.config) (row mono_next pcm_of n x)) k.0
      ∙ ap (λ (c : AudioConfig). (leveled l c.pwm_period s.mixer.mapper (pcm_of s)).duty ∷ levels_over l c.pwm_period (next l s s.mixer.mapper c) (row mono_next pcm_of n x)) k.1

  -- frames of a level keep the period
  pub level-period : (n : ℕ) (s : Present) → period (after (step_of l) n s) ≡ period s
  level-period n s = rw (level-after n s, (run-keeps n s).1)

  -- the state and the cells that the mapper over a block's samples makes
  module _ (s x : Present) (n p : ℕ) (samples : List ℤ) (h : x ≡ after mono_next n s) (e : p ≡ period s) (c : samples ≡ row mono_next pcm_of n s) where
    pub state-is : (q : PwmMapper) → q ≡ mapper_over l p x.mixer.mapper samples → mapper_at x q ≡ after (step_of l) n s
    state-is q g = rw (g, e, c, level-after n s, h, (run-keeps n s).0)

    pub cells_are : levels_over l p x.mixer.mapper samples ≡ given (step_of l) (cell_of l) n s
    cells_are = rw (e, c, level-given n s, h, (run-keeps n s).0)
