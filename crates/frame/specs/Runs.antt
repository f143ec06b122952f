-- Frames one after another. Assumes nothing.
use Rattle.std.specs.Prelude.{ℕ, Bool, cond, List, [], ◌∷◌}
use Rattle.mixer.specs.declared.Mixer.{Mixer}
use Rattle.frame.specs.Frames.{mono_frame, duty_frame, stereo_frame}

abbrev pub mono_step : Mixer → Mixer
mono_step m = (mono_frame m).mixer

abbrev pub duty_step : Mixer → Mixer
duty_step m = (duty_frame m).mixer

abbrev pub duties : Mixer → List ℕ
duties m = (duty_frame m).duty ∷ []

abbrev pub stereo_step : Mixer → Mixer
stereo_step m = (stereo_frame m).mixer

-- frames of both kinds in any order: true for stereo
unfoldable pub frames_after : List Bool → Mixer → Mixer
frames_after [] m = m
frames_after (k ∷ ks) m = frames_after ks (cond k (stereo_step m) (mono_step m))
