-- The calls of the box of the present rules as steps in any order, and how long a fade takes among them (document 02, T-02): it has document 01's
-- calls (`steps`), another that begins a fade, and those of requests that wait. Assumes nothing.
use Rattle.std.specs.Prelude.{ℕ, Bool, true, List}
use Rattle.entering.specs.declared.Lined.{Lined}
use Rattle.envelope.specs.declared.AdsrSpec.{AdsrSpec}
use Rattle.frame.specs.Lasting.{Box}
use Rattle.start.specs.declared.Request.{Request}
use Rattle.steps.specs.Steps as S
use Rattle.steps.specs.Steps.{Frame, mono, duty, stereo, play, tone, poly_blep, bank, pan, master_gain, stop, fade, look, turned_down, goes_on_from}
use Rattle.sounder.specs.Calls.{panned, with_master_gain, stopped, banked, played, faded, faded_on, toned, poly_bleped, left_in, withdrawn_in}
use Rattle.sounder.specs.Frames.{frames}
use Rattle.error.specs.Told.{told}

-- the box after each, as the call's contract has it
abbrev pub frame_step : Frame → List ℕ → Lined → Lined
frame_step mono bytes = (frames bytes).mono
frame_step duty bytes = (frames bytes).duty
frame_step stereo bytes = (frames bytes).stereo

-- a call that makes one frame, and the bytes that it is lent
pub record Lent : Type 0 where
  pub kind : Frame
  pub bytes : List ℕ

abbrev pub framed : Lent → Lined → Lined
framed f s = frame_step f.kind f.bytes s

-- document 01's calls, with what each is given, and document 02's
pub data Call : Type 0 where
  by01 : S.Call → Call
  -- bytes lent, id, ms, envelope
  fade_on : List ℕ → ℕ → ℕ → AdsrSpec → Call
  -- label, request
  leave : ℕ → Request → Call
  withdraw : ℕ → Call

abbrev pub called01 : S.Call → Lined → Lined
called01 (play bytes r) s = (played s bytes r).lined
called01 (tone hz ms waveform) s = toned s hz ms waveform
called01 (poly_blep hz ms waveform) s = poly_bleped s hz ms waveform
called01 (bank rate count len) s = (banked s rate count len).lined
called01 (pan i q) s = panned s i q
called01 (master_gain gain) s = with_master_gain s gain
called01 stop s = stopped s
called01 (fade bytes id ms adsr) s = (faded s bytes id ms adsr).lined
called01 look s = s

abbrev pub called : Call → Lined → Lined
called (by01 c) s = called01 c s
called (fade_on bytes id ms adsr) s = (faded_on s bytes id ms adsr).lined
called (leave label r) s = (left_in s label r).lined
called (withdraw label) s = (withdrawn_in s label).lined

-- "where no stop, no other fade comes between", of either call
abbrev pub goes_on : Call → Lined → Bool
goes_on (by01 c) s = goes_on_from c s.present.mixer
goes_on (fade_on bytes id ms adsr) s = turned_down (told (faded_on s bytes id ms adsr).gave)
goes_on (leave label r) s = true
goes_on (withdraw label) s = true

abbrev pub box : Box Lined Lent Call
box = record { mixer = λ s. s.present.mixer; framed = framed; called = called; goes_on = goes_on }

-- what document 02 promises of a fade that s accepts, by the call of old and by the second
abbrev pub FadeTakes : Lined → List ℕ → ℕ → ℕ → AdsrSpec → Type 0
FadeTakes s bytes id ms adsr = S.FadeTakes box s (faded s bytes id ms adsr).lined ms

abbrev pub FadeOnTakes : Lined → List ℕ → ℕ → ℕ → AdsrSpec → Type 0
FadeOnTakes s bytes id ms adsr = S.FadeTakes box s (faded_on s bytes id ms adsr).lined ms
