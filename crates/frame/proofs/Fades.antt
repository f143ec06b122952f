-- A fade ends within 255 frames, whichever kinds they are. Assumes nothing.
use Prim.Native.Nat.{suc, ◌≤◌}
use native.Mathlib.Omega.{arith}
use mathlib.Core.Path.{◌≡◌, refl, ap}
use mathlib.Core.Bool.{Bool, true, false, cond}
use mathlib.Core.List.{List, [], ◌∷◌, map}
use lib.Dec.{eqb}
use lib.ListN.{length}
use Rattle.laws.specs.Lists.{only}
use Rattle.marks.specs.declared.Marks.{Marks}
use Rattle.mixer.specs.Mixers.{Valid}
use Rattle.mixer.specs.declared.Mixer.{Mixer}
use Rattle.frame.specs.Fades.{fade_ended_with, fade_ended_by, fade_at, next_t, advanced_by, advanced}
use Rattle.frame.specs.Frames.{enveloped, sampled, old_marks, mono_frame, mono_frame_by, stereo_frame, stereo_frame_by}
use Rattle.frame.specs.Lasting.{frames_left, SameFade, Box, Step, frame, Lawful, after_all, frames_in, unbroken}
use Rattle.frame.specs.Runs.{frames_after}
use Rattle.frame.proofs.Lasting.{valid-moves, left-most, lasts}

-- the advance does the same to a fade's fields, whichever call began it
advance-same : (on : Bool) (m : Mixer) → SameFade (advanced_by on m) (advanced m)
unfolding advanced_by fade_ended_with fade_at
advance-same on m = go m.crossfade_active (eqb (next_t m) 255)
  where
    go : (a e : Bool) → SameFade (cond a (cond e (fade_ended_by on m) (fade_at m (next_t m))) m) (cond a (cond e (fade_ended_by false m) (fade_at m (next_t m))) m)
    go true true = record { active = refl; t = refl; step = refl }
    go true false = record { active = refl; t = refl; step = refl }
    go false e = record { active = refl; t = refl; step = refl }

-- a frame of either kind advances the fade and does nothing else to it
pub mono-fade : (k : Marks) (m : Mixer) → SameFade (mono_frame_by k m).mixer (advanced m)
unfolding mono_frame_by sampled enveloped
mono-fade k m = let s = advance-same k.sounds_on m in record { active = s.active; t = s.t; step = s.step }

pub stereo-fade : (k : Marks) (m : Mixer) → SameFade (stereo_frame_by k m).mixer (advanced m)
unfolding stereo_frame_by sampled enveloped
stereo-fade k m = let s = advance-same k.sounds_on m in record { active = s.active; t = s.t; step = s.step }

frame-fade : (k : Bool) (m : Mixer) → SameFade (cond k (stereo_frame m).mixer (mono_frame m).mixer) (advanced m)
frame-fade true m = stereo-fade old_marks m
frame-fade false m = mono-fade old_marks m

-- frames alone, as a box: true for stereo
frames : Box Mixer Bool (Unit {0})
frames =
    record {
      mixer = λ m. m;
      framed = λ k m. cond k (stereo_frame m).mixer (mono_frame m).mixer;
      called = λ c m. m;
      goes_on = λ c m. true;
    }

lawful : Lawful frames
unfolding frames
lawful = record { advances = frame-fade; leaves = λ c m g. record { active = refl; t = refl; step = refl } }

steps : List Bool → List (Step Bool (Unit {0}))
steps ks = map frame ks

all-frames : (ks : List Bool) (m : Mixer) → (frames_after ks m ≡ after_all frames (steps ks) m) × (frames_in (steps ks) ≡ length ks) × (unbroken frames (steps ks) m ≡ true)
unfolding frames steps frames_after after_all unbroken only
all-frames [] m = (refl, refl, refl)
all-frames (k ∷ ks) m =
    let h = all-frames ks (cond k (stereo_frame m).mixer (mono_frame m).mixer) in
    (h.0, ap suc h.1, h.2)

-- "A fade ends within at most 255 frames if not stopped or begun again."
pub fade-ends : (ks : List Bool) (m : Mixer) → Valid m → 255 ≤ length ks → (frames_after ks m).crossfade_active ≡ false
unfolding frames
fade-ends ks m h n =
    let a = all-frames ks m in
    rw a.0 ((lasts frames lawful (frames_left m) m (steps ks) (valid-moves h) refl a.2).over (omega (arith, left-most m (valid-moves h), a.1)))
