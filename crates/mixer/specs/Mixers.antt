-- The state of a box, what keeps it valid, and the calls that start nothing. Assumes nothing.
use Rattle.std.specs.Prelude.{ℕ, ◌≤◌, ◌≡◌, Bool, true, false, cond, List, ltb, length, get_or, take, drop, set, replicate, Err, None, Ok, Option, Some}
use Rattle.bank.specs.Banks.{ValidBank, bank_of}
use Rattle.bank.specs.declared.SoundBank.{SoundBank}
use Rattle.config.specs.Config as C
use Rattle.config.specs.declared.AudioConfig.{AudioConfig}
use Rattle.error.specs.Told.{Told, value, refused, refusal}
use Rattle.laws.specs.Lists.{All, map_first, only}
use Rattle.output.specs.Duty.{fresh_mapper, ValidMapper}
use Rattle.output.specs.declared.DutyMode.TheVariants as D
use Rattle.voice.specs.declared.Voice.{Voice}
use Rattle.voice.specs.Voices as S
use Rattle.mixer.specs.declared.Mixer.{Mixer}
use Rattle.mixer.specs.declared.VoiceStealingPolicy.{VoiceStealingPolicy}
use Rattle.mixer.specs.declared.VoiceStealingPolicy.TheVariants as P
use Rattle.mixer.specs.declared.Changed.{Changed}

-- "Setting a bank makes its rate the engine's"
abbrev pub AtRate : ℕ → Option SoundBank → Type 0
AtRate rate None = Unit {0}
AtRate rate (Some b) = b.sample_rate_hz ≡ rate

-- what every state that a call takes or gives has; the places from n on, which no call reads, stay silent
pub record Valid (m : Mixer) : Type 0 where
  pub few : m.n ≤ 16
  pub full : length m.voices ≡ 16
  pub each : All S.Valid m.voices
  pub rest : drop m.n m.voices ≡ drop m.n (replicate 16 (S.silent_voice m.config.sample_rate_hz))
  pub bank : ValidBank m.bank
  pub tuned : AtRate m.config.sample_rate_hz m.bank
  pub rate : m.config.sample_rate_hz ≤ 65537
  pub period : 2 ≤ m.config.pwm_period
  pub mapper : ValidMapper m.mapper
  pub fade : m.crossfade_active ≡ true → (2 ≤ m.n) × (1 ≤ m.crossfade_step_q8)

abbrev pub ValidChanged : Changed → Type 0
ValidChanged c = Valid c.mixer

-- the N voices
abbrev pub voices_of : Mixer → List Voice
voices_of m = take m.n m.voices

-- m with other voices
abbrev pub with_voices : Mixer → List Voice → Mixer
with_voices m vs =
    record {
      n = m.n;
      voices = vs;
      bank = m.bank;
      config = m.config;
      mapper = m.mapper;
      crossfade_t_q8 = m.crossfade_t_q8;
      crossfade_step_q8 = m.crossfade_step_q8;
      crossfade_active = m.crossfade_active;
      stealing_policy = m.stealing_policy;
    }

-- engine.rs: the policy that stands where none is chosen
abbrev pub default_policy : VoiceStealingPolicy
default_policy = P.LowestPriorityOldest

-- n silent voices, no bank, no fade
unfoldable pub fresh : ℕ → AudioConfig → VoiceStealingPolicy → Mixer
fresh n config policy =
    record {
      n = n;
      voices = replicate 16 (S.silent_voice config.sample_rate_hz);
      bank = None;
      config = config;
      mapper = fresh_mapper config.duty_mode;
      crossfade_t_q8 = 0;
      crossfade_step_q8 = 0;
      crossfade_active = false;
      stealing_policy = policy;
    }

-- a refused opening: no voices, at rate 0
abbrev pub closed : Mixer
closed =
    fresh 0 (record { sample_rate_hz = 0; pwm_period = 2; duty_mode = D.Linear; master_gain_q8 = 0 }) P.LowestPriorityOldest

abbrev pub not_opened : ℕ → Changed
not_opened n = record { outcome = Err (refusal n); mixer = closed }

-- "Opening an engine": 1, 2, 3 in this order
unfoldable pub opened : ℕ → AudioConfig → VoiceStealingPolicy → Changed
opened n config policy =
    cond (ltb 16 n) (not_opened 1)
    (cond (ltb 65537 config.sample_rate_hz) (not_opened 2)
    (cond (ltb config.pwm_period 2) (not_opened 3)
    (record { outcome = (Ok tt); mixer = fresh n config policy })))

unfoldable pub with_master_gain : Mixer → ℕ → Mixer
with_master_gain m gain =
    record {
      n = m.n;
      voices = m.voices;
      bank = m.bank;
      config = C.with_master_gain m.config gain;
      mapper = m.mapper;
      crossfade_t_q8 = m.crossfade_t_q8;
      crossfade_step_q8 = m.crossfade_step_q8;
      crossfade_active = m.crossfade_active;
      stealing_policy = m.stealing_policy;
    }

-- "Audible means source active or envelope not idle."
unfoldable pub audible_count : Mixer → ℕ
audible_count m = length (only S.audible (voices_of m))

-- a voice is audible
unfoldable pub playing : Mixer → Bool
playing m = ltb 0 (audible_count m)

-- the voice at a place; there are n
unfoldable pub voice_read : Mixer → ℕ → Option Voice
voice_read m i = cond (ltb i m.n) (Some (get_or m.voices i (S.silent_voice 0))) None

abbrev pub pan_given : Option Voice → Option ℕ
pan_given (Some v) = Some v.pan_q8
pan_given None = None

unfoldable pub pan_read : Mixer → ℕ → Option ℕ
pan_read m i = pan_given (voice_read m i)

abbrev pub panned_at : Mixer → ℕ → ℕ → Option Voice → Mixer
panned_at m i pan (Some v) = with_voices m (set m.voices i (S.with_pan v pan))
panned_at m i pan None = m

-- "Setting the pan of a voice that isn't there does nothing and has no refusal."
unfoldable pub panned : Mixer → ℕ → ℕ → Mixer
panned m i pan = panned_at m i pan (voice_read m i)

-- "`stop_all` idles every source and envelope, ends the fade and makes its step and the shapers' sums 0; it leaves t, gain, priority,
-- pan."
unfoldable pub stopped : Mixer → Mixer
stopped m =
    record {
      n = m.n;
      voices = map_first S.stopped_voice m.n m.voices;
      bank = m.bank;
      config = m.config;
      mapper = fresh_mapper m.mapper.mode;
      crossfade_t_q8 = m.crossfade_t_q8;
      crossfade_step_q8 = 0;
      crossfade_active = false;
      stealing_policy = m.stealing_policy;
    }

-- "A refusal changes nothing"
abbrev pub unchanged : Mixer → ℕ → Changed
unchanged m n = record { outcome = Err (refusal n); mixer = m }

-- "Setting a bank makes its rate the engine's and all voices silent at that rate, and touches neither fade fields nor duty shapers."
abbrev pub holding_bank : Mixer → SoundBank → Mixer
holding_bank m b =
    record {
      n = m.n;
      voices = replicate 16 (S.silent_voice b.sample_rate_hz);
      bank = Some b;
      config =
          record {
            sample_rate_hz = b.sample_rate_hz;
            pwm_period = m.config.pwm_period;
            duty_mode = m.config.duty_mode;
            master_gain_q8 = m.config.master_gain_q8;
          };
      mapper = m.mapper;
      crossfade_t_q8 = m.crossfade_t_q8;
      crossfade_step_q8 = m.crossfade_step_q8;
      crossfade_active = m.crossfade_active;
      stealing_policy = m.stealing_policy;
    }

abbrev pub banked_by : Mixer → Told SoundBank → Changed
banked_by m (refused n) = unchanged m n
banked_by m (value b) = record { outcome = (Ok tt); mixer = holding_bank m b }

unfoldable pub banked : Mixer → ℕ → ℕ → ℕ → Changed
banked m rate count len = banked_by m (bank_of rate count len)
