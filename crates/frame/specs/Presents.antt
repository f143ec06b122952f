-- A frame of a box of the present rules: the mixer's, by the marks beside its voices and the call that began the last fade. Assumes nothing.
use Rattle.std.specs.Prelude.{ℕ, ℤ}
use Rattle.marks.specs.declared.Present.{Present}
use Rattle.mixer.specs.declared.Mixer.{Mixer}
use Rattle.frame.specs.Fades.{marks_advanced}
use Rattle.frame.specs.Frames.{mono_frame_by, duty_frame_by, stereo_frame_by}

-- the state after a frame, from the mixer after it
abbrev pub framed : Present → Mixer → Present
framed p m = record { mixer = m; marks = marks_advanced p.mixer p.marks }

abbrev pub mono_next : Present → Present
mono_next p = framed p (mono_frame_by p.marks p.mixer).mixer

abbrev pub duty_next : Present → Present
duty_next p = framed p (duty_frame_by p.marks p.mixer).mixer

abbrev pub stereo_next : Present → Present
stereo_next p = framed p (stereo_frame_by p.marks p.mixer).mixer

-- what it gives
abbrev pub pcm_of : Present → ℤ
pcm_of p = (mono_frame_by p.marks p.mixer).pcm

abbrev pub duty_of : Present → ℕ
duty_of p = (duty_frame_by p.marks p.mixer).duty

abbrev pub left_side : Present → ℤ
left_side p = (stereo_frame_by p.marks p.mixer).left

abbrev pub right_side : Present → ℤ
right_side p = (stereo_frame_by p.marks p.mixer).right
