-- Document 02, T-12, for a voice in a box: "After n samples from a start", where no other start, stop or fade comes between. Assumes nothing.
use Rattle.std.specs.Prelude.{ℕ, ◌≤◌, ◌<◌, ◌≡◌, List, false}
use Rattle.drift.specs.Pitch.{InReach, TurnsWithin, MeanWithin, Fraction}
use Rattle.drift.specs.Voices.{Lasts}
use Rattle.frame.specs.Fades.{voice_at}
use Rattle.mixer.specs.Mixers.{Valid}
use Rattle.mixer.specs.declared.Mixer.{Mixer}
use Rattle.play.specs.Plays.{poly_bleped}
use Rattle.polyblep.specs.declared.PolyBlepVoice.{PolyBlepVoice}
use Rattle.polyblep.specs.declared.PolyBlepWaveform.{PolyBlepWaveform}
use Rattle.voice.specs.declared.source.VoiceSource.TheVariants as S
use Rattle.drift_frames.specs.Calls.{Call, called_all, frame_count, turns_in}

-- voice 0 of m sounds PolyBLEP, n samples and t turns after its start, and is as true as T-12 asks
pub record TrueVoice (hz rate n t : ℕ) (m : Mixer) : Type 0 where
  pub voice : PolyBlepVoice
  pub sounds : (voice_at m 0).source ≡ S.PolyBlep voice
  pub fraction : Fraction voice.osc.phase
  pub limit : TurnsWithin 5 n hz rate t voice.osc.phase
  pub tighter : TurnsWithin 3 n hz rate t voice.osc.phase
  pub mean : 0 < n → MeanWithin 5 n hz rate t voice.osc.phase

-- a box with a voice in which no fade runs, a duration of 16 bits, and Hz and rate within T-12's reach
pub record Startable (hz ms : ℕ) (m : Mixer) : Type 0 where
  pub box : Valid m
  pub some : 0 < m.n
  pub still : m.crossfade_active ≡ false
  pub wide : ms ≤ 65535
  pub reach : InReach hz m.config.sample_rate_hz

-- from a start on m on: after any such calls, one sample at each frame
pub record TrueBox (hz ms : ℕ) (w : PolyBlepWaveform) (m : Mixer) : Type 0 where
  pub after : (cs : List Call) → Lasts ms m.config.sample_rate_hz (frame_count cs)
      → (let s = poly_bleped m hz ms w in TrueVoice hz m.config.sample_rate_hz (frame_count cs) (turns_in cs s) (called_all cs s))
