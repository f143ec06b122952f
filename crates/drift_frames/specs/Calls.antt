-- The calls on a box that are no start, stop or fade: frames and settings. (Setting a bank stops every voice.) Assumes nothing.
use Rattle.std.specs.Prelude.{ℕ, suc, ◌+◌, Bool, true, false, cond, List, [], ◌∷◌}
use Rattle.drift.specs.Turns.{turn}
use Rattle.frame.specs.Fades.{voice_at}
use Rattle.frame.specs.Frames.{mono_frame, duty_frame, stereo_frame}
use Rattle.mixer.specs.Mixers.{panned, with_master_gain}
use Rattle.mixer.specs.declared.Mixer.{Mixer}
use Rattle.voice.specs.declared.source.VoiceSource.{VoiceSource}
use Rattle.voice.specs.declared.source.VoiceSource.TheVariants as S

pub data Call : Type 0 where
  mono : Call
  duty : Call
  stereo : Call
  pan : ℕ → ℕ → Call
  master : ℕ → Call

unfoldable pub called : Call → Mixer → Mixer
called mono m = (mono_frame m).mixer
called duty m = (duty_frame m).mixer
called stereo m = (stereo_frame m).mixer
called (pan i p) m = panned m i p
called (master gain) m = with_master_gain m gain

abbrev pub is_frame : Call → Bool
is_frame mono = true
is_frame duty = true
is_frame stereo = true
is_frame (pan i p) = false
is_frame (master gain) = false

-- one after another
unfoldable pub called_all : List Call → Mixer → Mixer
called_all [] m = m
called_all (c ∷ cs) m = called_all cs (called c m)

unfoldable pub frame_count : List Call → ℕ
frame_count [] = 0
frame_count (c ∷ cs) = cond (is_frame c) (suc (frame_count cs)) (frame_count cs)

-- 1 where a source's next sample completes a turn of PolyBLEP
abbrev pub next_turn : VoiceSource → ℕ
next_turn S.Idle = 0
next_turn (S.Tone v) = 0
next_turn (S.PolyBlep v) = turn v.osc
next_turn (S.Fm v) = 0

-- the turns that voice 0 completes, counted in the box as it goes, one sample a frame
unfoldable pub turns_in : List Call → Mixer → ℕ
turns_in [] m = 0
turns_in (c ∷ cs) m = cond (is_frame c) (next_turn (voice_at m 0).source) 0 + turns_in cs (called c m)
