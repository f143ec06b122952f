-- Document 02's T-03 over a whole frame: with every gain at 255 a voice's sample comes to the limiter as its source gave it, and the
-- limiter's to the listener. Assumes nothing.
use Rattle.std.specs.Prelude.{◌≤◌, ◌≡◌, true, false, ℤ, Some}
use Rattle.fixed.specs.Fixed.{limited}
use Rattle.marks.specs.Marks.{rule_at}
use Rattle.marks.specs.declared.Present.{Present}
use Rattle.voice.specs.Sources.{stepped_source}
use Rattle.voice.specs.Voices.{ticked_voice}
use Rattle.voice.specs.declared.Voice.{Voice}
use Rattle.frame.specs.Fades.{voice_at}
use Rattle.frame.specs.Presents.{pcm_of, left_side, right_side}

-- voice 0 as a frame samples it: its envelope has ticked
abbrev pub heard : Present → Voice
heard p = ticked_voice (voice_at p.mixer 0)

-- a box of one voice, in no fade, whose source gives this sample; envelope, voice and master are at 255, by the present rule
pub record AllAt255 (p : Present) (raw : ℤ) : Type 0 where
  pub one : p.mixer.n ≡ 1
  pub still : p.mixer.crossfade_active ≡ false
  pub gives : (stepped_source (heard p).source).given ≡ Some raw
  pub level : (heard p).adsr.level_q8 ≡ 255
  pub gain : (heard p).gain_q8 ≡ 255
  pub master : p.mixer.config.master_gain_q8 ≡ 255
  pub voice_whole : rule_at p.marks 0 ≡ true
  pub master_whole : p.marks.master ≡ true

-- "Gain 255 shall hand the sample through": what a frame of it gives. The left pan gain is 255 up to pan 128, the right one from 128 on.
pub record HandedThrough (p : Present) (raw : ℤ) : Type 0 where
  pub mono : pcm_of p ≡ limited raw
  pub left : (heard p).pan_q8 ≤ 128 → left_side p ≡ limited raw
  pub right : 128 ≤ (heard p).pan_q8 → right_side p ≡ limited raw
