-- Frames of a box, its marks beside the mixer: those in which no fade ends, and the one in which one does. Assumes nothing.
use Prim.Native.Nat.{ℕ, zero, suc}
use native.Mathlib.Nat.{zero-mul, suc-mul}
use native.Mathlib.Omega.{arith}
use mathlib.Core.Path.{◌≡◌, refl, ap}
use mathlib.Core.Bool.{Bool, true, false}
use Rattle.frame.specs.Fades.{fade_ended_by, fade_at, marks_ended}
use Rattle.frame.specs.Frames.{enveloped, sampled, mono_frame_by, stereo_frame_by}
use Rattle.frame.specs.Presents.{right_side}
use Rattle.frame.specs.declared.MonoFrame.{MonoFrame}
use Rattle.frame.specs.declared.StereoFrame.{StereoFrame}
use Rattle.frame.proofs.Laws.{mono-any, stereo-any}
use Rattle.laws.specs.Runs.{after}
use Rattle.laws.proofs.Bools.{never}
use Rattle.marks.specs.declared.Marks.{Marks}
use Rattle.marks.specs.declared.Present.{Present}
use Rattle.mixer.specs.declared.Mixer.{Mixer}
use Rattle.block.specs.Blocks.{next_of, left_of}
use Rattle.block.specs.Parts.{step_of, Slow}
use Rattle.block.proofs.Frames.{advanced-lasting, advanced-same, marks-lasting, Ends, marks-ending, mono-ending, stereo-ending}

-- one that ends no fade leaves the marks alone
next-steady : (sides : Bool) (k : Marks) (m : Mixer) → Slow m 1 → next_of sides (record { mixer = m; marks = k }) ≡ record { mixer = step_of sides m; marks = k }
next-steady true k m h = rw (marks-lasting k m h, stereo-any k m (advanced-same k.sounds_on m h))
next-steady false k m h = rw (marks-lasting k m h, mono-any k m (advanced-same k.sounds_on m h))

slow-first : (n : ℕ) (m : Mixer) → Slow m (suc n) → Slow m 1
slow-first n m h a z =
    let s = m.crossfade_step_q8 in
    let e = suc-mul n s in
    let f = suc-mul 0 s in
    let g = zero-mul s in
    omega (arith, h a (omega arith))

slow-next : (sides : Bool) (n : ℕ) (m : Mixer) → Slow m (suc n) → Slow (step_of sides m) n
unfolding mono_frame_by stereo_frame_by enveloped sampled fade_at
slow-next true n m h =
    rw (advanced-lasting false m (slow-first n m h)) (λ a z. let e = suc-mul n m.crossfade_step_q8 in rw a (omega (arith, h a (omega arith))))
slow-next false n m h =
    rw (advanced-lasting false m (slow-first n m h)) (λ a z. let e = suc-mul n m.crossfade_step_q8 in rw a (omega (arith, h a (omega arith))))

pub after-steady : (sides : Bool) (k : Marks) (n : ℕ) (m : Mixer) → Slow m n
    → after (next_of sides) n (record { mixer = m; marks = k }) ≡ record { mixer = after (step_of sides) n m; marks = k }
unfolding after
after-steady sides k zero m h = refl
after-steady sides k (suc n) m h =
    rw (next-steady sides k m (slow-first n m h)) (after-steady sides k n (step_of sides m) (slow-next sides n m h))

-- a frame in which the fade ends is the frame of the state with the fade ended
abbrev pub ended_state : Present → Present
ended_state p = record { mixer = fade_ended_by p.marks.sounds_on p.mixer; marks = marks_ended p.marks }

pub record Joins (sides : Bool) (x b : Present) : Type 0 where
  pub step : next_of sides x ≡ next_of sides b
  pub left : left_of sides x ≡ left_of sides b
  pub right : sides ≡ true → right_side x ≡ right_side b

pub joins : (sides : Bool) (x : Present) → Ends x.mixer → Joins sides x (ended_state x)
joins true x h =
    let e = stereo-ending x.marks x.mixer h in
    record {
      step = rw (ap (λ (f : StereoFrame). f.mixer) e, marks-ending x.marks.sounds_on x.marks x.mixer h);
      left = ap (λ (f : StereoFrame). f.left) e;
      right = λ z. ap (λ (f : StereoFrame). f.right) e;
    }
joins false x h =
    let e = mono-ending x.marks x.mixer h in
    record { step = rw (ap (λ (f : MonoFrame). f.mixer) e, marks-ending x.marks.sounds_on x.marks x.mixer h); left = ap (λ (f : MonoFrame). f.pcm) e; right = λ z. never z }
