-- Each call of the engine does to its fade what document 01's does; so a fade takes its count of frames. Assumes nothing.
use Prim.Native.Nat.{ℕ}
use mathlib.Core.Path.{◌≡◌, refl}
use mathlib.Core.Bool.{true}
use mathlib.Core.List.{List, map}
use lib.ListN.{replicate}
use Rattle.envelope.specs.declared.AdsrSpec.{AdsrSpec}
use Rattle.error.specs.Told.{told, passed}
use Rattle.frame.specs.Fades.{advanced}
use Rattle.frame.specs.Frames.{old_marks}
use Rattle.frame.specs.Lasting.{frames_left, SameFade, Step, frame, call, after_all, unbroken, Lasts}
use Rattle.laws.specs.Runs.{after}
use Rattle.mixer.specs.Mixers.{Valid}
use Rattle.mixer.specs.declared.Mixer.{Mixer}
use Rattle.play.specs.Fades.{faded}
use Rattle.start.specs.declared.Request.{Request}
use Rattle.steps.specs.Steps.{Frame, mono, duty, stereo, Call, play, ByRule}
use Rattle.steps.proofs.Calls.{same}
use Rattle.frame.proofs.Fades.{mono-fade, stereo-fade}
use Rattle.steps.proofs.Frames.{duty-fade}
use Rattle.steps.proofs.Steps as S
use Rattle.engine.specs.Requests.{player, played_all}
use Rattle.engine.specs.Steps.{framed, stepper, box, FadeTakes}

advances : (f : Frame) (m : Mixer) → SameFade (framed f m) (advanced m)
advances mono m = mono-fade old_marks m
advances duty m = duty-fade old_marks m
advances stereo m = stereo-fade old_marks m

by-rule : ByRule stepper
by-rule = record { advances = advances; calls = λ c m. same _ }

-- ---- T-02
pub fade-takes : (m : Mixer) (bytes : List ℕ) (id ms : ℕ) (adsr : AdsrSpec) → told (faded m bytes id ms adsr).outcome ≡ passed → FadeTakes m bytes id ms adsr
fade-takes m bytes id ms adsr a = S.fade-takes stepper by-rule m bytes id ms adsr a

-- of a fade under way, what is left of it
pub fade-lasts : (m : Mixer) (ss : List (Step Frame Call)) → Valid m → unbroken box ss m ≡ true → Lasts box (frames_left m) m ss
fade-lasts m ss h u = S.fade-lasts box (S.lawful stepper by-rule) m ss h u

-- ---- a buffer call is so many frames (`buffers/Buffers` Fills), a list of requests so many plays (`Requests` played_all)
pub frame-run : (f : Frame) (n : ℕ) (m : Mixer) → after_all box (replicate n (frame f)) m ≡ after (framed f) n m
frame-run f n m = S.frame-run box (λ m. m) f (framed f) (λ m. refl) n m

pub play-run : (bytes : List ℕ) (rs : List Request) (m : Mixer) → after_all box (map (λ r. call (play bytes r)) rs) m ≡ played_all m bytes rs
play-run bytes rs m = S.play-run box player play (λ bytes r m. refl) bytes rs m
