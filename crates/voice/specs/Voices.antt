-- The voice around a source, call by call. Assumes nothing.
use Rattle.std.specs.Prelude.{ℕ, ◌≤◌, Bool, cond, ◌||◌, ℤ, Option, Some, None}
use Rattle.envelope.specs.declared.Adsr.{Adsr}
use Rattle.envelope.specs.declared.AdsrSpec.{AdsrSpec}
use Rattle.envelope.specs.Adsrs as A
use Rattle.fixed.specs.declared.Step.{Step}
use Rattle.fixed.specs.Fixed.{gained, gained_by, pan_gains}
use Rattle.voice.specs.Sources.{ValidSource, active_source, stepped_source}
use Rattle.voice.specs.declared.source.VoiceSource.{VoiceSource}
use Rattle.voice.specs.declared.source.VoiceSource.TheVariants as S
use Rattle.voice.specs.declared.Voice.{Voice}

-- What every voice that a call takes or gives has. No ghost field: its fields are public, and each definition that builds a voice would
-- need a proof.
pub record Valid (v : Voice) : Type 0 where
  pub rate : v.sample_rate_hz ≤ 65537
  pub source : ValidSource v.source
  pub adsr : A.Valid v.adsr

abbrev pub ValidStep : {T : Type 0} → Step Voice T → Type 0
ValidStep s = Valid s.voice

-- "A silent voice: idle source, idle envelope, gain 255, priority 0, pan 128."
unfoldable pub silent_voice : ℕ → Voice
silent_voice rate =
    record {
      source = S.Idle;
      adsr = A.idle_adsr A.click_spec rate;
      gain_q8 = 255;
      priority = 0;
      pan_q8 = 128;
      sample_rate_hz = rate;
    }

-- v with another source and envelope
abbrev pub sounding : Voice → VoiceSource → Adsr → Voice
sounding v source adsr =
    record {
      source = source;
      adsr = adsr;
      gain_q8 = v.gain_q8;
      priority = v.priority;
      pan_q8 = v.pan_q8;
      sample_rate_hz = v.sample_rate_hz;
    }

unfoldable pub with_gain : Voice → ℕ → Voice
with_gain v gain =
    record {
      source = v.source;
      adsr = v.adsr;
      gain_q8 = gain;
      priority = v.priority;
      pan_q8 = v.pan_q8;
      sample_rate_hz = v.sample_rate_hz;
    }

unfoldable pub with_pan : Voice → ℕ → Voice
with_pan v pan =
    record {
      source = v.source;
      adsr = v.adsr;
      gain_q8 = v.gain_q8;
      priority = v.priority;
      pan_q8 = pan;
      sample_rate_hz = v.sample_rate_hz;
    }

-- a new envelope at the voice's rate, triggered
unfoldable pub triggered_voice : Voice → AdsrSpec → Voice
triggered_voice v spec = sounding v v.source (A.triggered (A.idle_adsr spec v.sample_rate_hz))

unfoldable pub released_voice : Voice → Voice
released_voice v = sounding v v.source (A.released v.adsr)

-- source and envelope idle; gain, priority and pan stay
unfoldable pub stopped_voice : Voice → Voice
stopped_voice v = sounding v S.Idle (A.idle_adsr A.click_spec v.sample_rate_hz)

-- "Audible means source active or envelope not idle."
unfoldable pub audible : Voice → Bool
audible v = active_source v.source || A.active v.adsr

-- "tick all envelopes (a voice then inaudible gets the idle source)"
unfoldable pub ticked_voice : Voice → Voice
ticked_voice v =
    let t = sounding v v.source (A.ticked v.adsr) in
    cond (audible t) t (sounding t S.Idle t.adsr)

-- "Gain: floor(sample × gain ÷ 256), by envelope first, then voice", by a rule for one gain
abbrev pub shaped_by : (ℤ → ℕ → ℤ) → ℕ → ℕ → Option ℤ → Option ℤ
shaped_by rule level gain (Some raw) = Some (rule (rule raw level) gain)
shaped_by rule level gain None = None

-- a request for a sample
unfoldable pub stepped_voice : Voice → Step Voice (Option ℤ)
stepped_voice v =
    let s = stepped_source v.source in
    record {
      voice = sounding v s.voice v.adsr;
      given = shaped_by gained v.adsr.level_q8 v.gain_q8 s.given;
    }

-- the sample of a request, by a rule of gain 255; document 01's is steppedVoice's
unfoldable pub sample_by : Bool → Voice → Option ℤ
sample_by whole v = shaped_by (gained_by whole) v.adsr.level_q8 v.gain_q8 (stepped_source v.source).given

-- the mono sample on both sides, "after pan"
abbrev pub panned_by : (ℤ → ℕ → ℤ) → ℕ → Option ℤ → Option (ℤ × ℤ)
panned_by rule pan (Some s) = Some (rule s (pan_gains pan).left, rule s (pan_gains pan).right)
panned_by rule pan None = None

unfoldable pub stereo_step : Voice → Step Voice (Option (ℤ × ℤ))
stereo_step v =
    let s = stepped_voice v in
    record { voice = s.voice; given = panned_by gained v.pan_q8 s.given }

-- the same by a rule of gain 255; document 01's is stereoStep's
unfoldable pub pair_by : Bool → Voice → Option (ℤ × ℤ)
pair_by whole v = panned_by (gained_by whole) v.pan_q8 (sample_by whole v)
