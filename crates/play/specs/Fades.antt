-- Beginning a fade. Assumes nothing.
use Rattle.std.specs.Prelude.{ℕ, Bool, true, false, cond, List, ltb, get_or, set, Ok}
use Rattle.bank.specs.Search.{found_given}
use Rattle.bank.specs.declared.EffectEntry.{EffectEntry}
use Rattle.config.specs.Config.{fade_step}
use Rattle.envelope.specs.declared.AdsrSpec.{AdsrSpec}
use Rattle.error.specs.Told.{Told, value, refused}
use Rattle.start.specs.Starts.{entry_start_under, request_start_under}
use Rattle.voice.specs.Voices.{silent_voice, released_voice}
use Rattle.voice.specs.declared.Voice.{Voice}
use Rattle.mixer.specs.Mixers.{with_voices, unchanged}
use Rattle.mixer.specs.declared.Mixer.{Mixer}
use Rattle.mixer.specs.declared.Changed.{Changed}

-- voice 0 released
unfoldable pub first_released : Mixer → Mixer
first_released m = with_voices m (set m.voices 0 (released_voice (get_or m.voices 0 (silent_voice 0))))

-- "A fade starts voice 1 at priority 128 and then sets t to 0."
unfoldable pub begun : Mixer → Voice → ℕ → Mixer
begun m v step =
    record {
      n = m.n;
      voices = set m.voices 1 v;
      bank = m.bank;
      config = m.config;
      mapper = m.mapper;
      crossfade_t_q8 = 0;
      crossfade_step_q8 = step;
      crossfade_active = true;
      stealing_policy = m.stealing_policy;
    }

-- the step is from the engine's rate
unfoldable pub faded_by : Mixer → ℕ → Told Voice → Changed
faded_by m ms (refused n) = unchanged m n
faded_by m ms (value v) = record { outcome = (Ok tt); mixer = begun m v (fade_step ms m.config.sample_rate_hz) }

-- "it releases voice 0 before its entry start, and 4 or 10 given there leaves that release standing"; document 02: "The release of voice 0 by a
-- fade now goes with these", 15 and 16
abbrev pub faded_to : Bool → Mixer → List ℕ → ℕ → AdsrSpec → Told EffectEntry → Changed
faded_to parted m bytes ms adsr (refused n) = unchanged m n
faded_to parted m bytes ms adsr (value entry) = faded_by (first_released m) ms (entry_start_under parted m.bank bytes entry adsr 128)

-- "Fade | N below 2 | 5 `VoiceBusy`", then bank, entry search and entry start
unfoldable pub faded_under : Bool → Mixer → List ℕ → ℕ → ℕ → AdsrSpec → Changed
faded_under parted m bytes id ms adsr = cond (ltb m.n 2) (unchanged m 5) (faded_to parted m bytes ms adsr (found_given m.bank bytes id))

-- by document 01
abbrev pub faded : Mixer → List ℕ → ℕ → ℕ → AdsrSpec → Changed
faded m bytes id ms adsr = faded_under false m bytes id ms adsr

-- ---- document 02's second fade call
-- "It also starts voice 1 before it releases voice 0, so that being turned down changes nothing at all."
abbrev pub faded_on_by : Mixer → ℕ → Told Voice → Changed
faded_on_by m ms (refused n) = unchanged m n
faded_on_by m ms (value v) = faded_by (first_released m) ms (value v)

-- the table's places are the old call's: N below 2, then bank, entry search and entry start
unfoldable pub faded_on : Mixer → List ℕ → ℕ → ℕ → AdsrSpec → Changed
faded_on m bytes id ms adsr =
    cond (ltb m.n 2) (unchanged m 5) (faded_on_by m ms (request_start_under true m.bank bytes (record { id = id; adsr = adsr; priority = 128 })))
