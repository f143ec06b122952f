-- A frame of a state with its line. Assumes nothing.
use Rattle.std.specs.Prelude.{ℕ, List, [], ◌∷◌}
use Rattle.frame.specs.Presents.{mono_next, duty_next, stereo_next}
use Rattle.marks.specs.Marks.{settled}
use Rattle.marks.specs.declared.Present.{Present}
use Rattle.steps.specs.Steps.{Frame, mono, duty, stereo}
use Rattle.entering.specs.Entering.{entered_in}
use Rattle.entering.specs.Lined.{lined}
use Rattle.entering.specs.declared.Lined.{Lined}

-- the frames of a box of the present rules
abbrev pub frame_step : Frame → Present → Present
frame_step mono p = settled (mono_next p)
frame_step duty p = settled (duty_next p)
frame_step stereo p = settled (stereo_next p)

-- frames of any kinds, one after another
abbrev pub mixed : List Frame → Present → Present
mixed [] p = p
mixed (f ∷ fs) p = mixed fs (frame_step f p)

-- "At the start of a frame, before the fade advances", those that wait go in; then the frame
abbrev pub framed_lined : (Present → Present) → List ℕ → Lined → Lined
framed_lined step bytes s = let e = entered_in bytes s in lined (step e.present) e.kept e.line

-- what such a frame gives
abbrev pub given_lined : {A : Type 0} → (Present → List A) → List ℕ → Lined → List A
given_lined gives bytes s = gives (entered_in bytes s).present
