-- The calls of an engine as steps in any order, and how long a fade takes among them (document 02, T-02): it is a box that has document 01's
-- calls (`steps`). Assumes nothing.
use Rattle.std.specs.Prelude.{ℕ, List}
use Rattle.envelope.specs.declared.AdsrSpec.{AdsrSpec}
use Rattle.frame.specs.Lasting.{Box}
use Rattle.frame.specs.Runs.{mono_step, duty_step, stereo_step}
use Rattle.mixer.specs.declared.Mixer.{Mixer}
use Rattle.play.specs.Fades.{faded}
use Rattle.steps.specs.Steps as S
use Rattle.steps.specs.Steps.{Frame, mono, duty, stereo, Call, called_mixer}

-- the engine after a frame, as the call's contract has it
abbrev pub framed : Frame → Mixer → Mixer
framed mono = mono_step
framed duty = duty_step
framed stereo = stereo_step

-- after each other call its contract has what document 01 makes of a mixer's state
abbrev pub stepper : S.Stepper Mixer
stepper = record { mixer = λ m. m; framed = framed; called = called_mixer }

-- ---- what `steps` says of such a box, said of the engine

abbrev pub box : Box Mixer Frame Call
box = S.box stepper

-- what document 02 promises of a fade that m accepts
abbrev pub FadeTakes : Mixer → List ℕ → ℕ → ℕ → AdsrSpec → Type 0
FadeTakes m bytes id ms adsr = S.FadeTakes box m (faded m bytes id ms adsr).mixer ms
