-- A frame of a duty advances the fade, whatever stands beside the voices, and does nothing else to it. Assumes nothing.
use Rattle.frame.specs.Fades.{advanced}
use Rattle.frame.specs.Frames.{duty_frame_by}
use Rattle.frame.specs.Lasting.{SameFade}
use Rattle.frame.proofs.Fades.{mono-fade}
use Rattle.marks.specs.declared.Marks.{Marks}
use Rattle.mixer.specs.declared.Mixer.{Mixer}

-- the mapper takes the mono frame's sample, and no part in the fade
pub duty-fade : (k : Marks) (m : Mixer) → SameFade (duty_frame_by k m).mixer (advanced m)
unfolding duty_frame_by
duty-fade k m = let f = mono-fade k m in record { active = f.active; t = f.t; step = f.step }
