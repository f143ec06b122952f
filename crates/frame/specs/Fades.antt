-- The fade's advance and end. Assumes nothing.
use Rattle.std.specs.Prelude.{ℕ, ◌+◌, min, Bool, false, cond, eqb, get_or, set}
use Rattle.envelope.specs.declared.Adsr.{Adsr}
use Rattle.mixer.specs.declared.Mixer.{Mixer}
use Rattle.voice.specs.Voices.{silent_voice, stopped_voice}
use Rattle.voice.specs.declared.Voice.{Voice}
use Rattle.marks.specs.Marks.{nothing, marked_at}
use Rattle.marks.specs.declared.Marks.{Marks}

-- "voice 0 gets voice 1's source, gain, priority and pan", and this envelope
unfoldable pub taken_over : Adsr → Voice → Voice → Voice
taken_over adsr old new =
    record {
      source = new.source;
      adsr = adsr;
      gain_q8 = new.gain_q8;
      priority = new.priority;
      pan_q8 = new.pan_q8;
      sample_rate_hz = old.sample_rate_hz;
    }

-- the voice at a place
abbrev pub voice_at : Mixer → ℕ → Voice
voice_at m i = get_or m.voices i (silent_voice 0)

-- "There" t is 255, "voice 0 gets voice 1's ..; voice 1 stops, t becomes 0"
unfoldable pub fade_ended_with : Adsr → Mixer → Mixer
fade_ended_with adsr m =
    record {
      n = m.n;
      voices = set (set m.voices 0 (taken_over adsr (voice_at m 0) (voice_at m 1))) 1 (stopped_voice (voice_at m 1));
      bank = m.bank;
      config = m.config;
      mapper = m.mapper;
      crossfade_t_q8 = 0;
      crossfade_step_q8 = m.crossfade_step_q8;
      crossfade_active = false;
      stealing_policy = m.stealing_policy;
    }

-- Which envelope that is, by the call that began the fade: "an idle envelope at level 0"; true, document 02's second fade call, "at whose end voice
-- 0 also takes voice 1's envelope as it then is", which is before the frame's tick.
unfoldable pub envelope_after : Bool → Voice → Voice → Adsr
envelope_after on old new = cond on new.adsr (stopped_voice old).adsr

abbrev pub fade_ended_by : Bool → Mixer → Mixer
fade_ended_by on m = fade_ended_with (envelope_after on (voice_at m 0) (voice_at m 1)) m

unfoldable pub fade_at : Mixer → ℕ → Mixer
fade_at m t =
    record {
      n = m.n;
      voices = m.voices;
      bank = m.bank;
      config = m.config;
      mapper = m.mapper;
      crossfade_t_q8 = t;
      crossfade_step_q8 = m.crossfade_step_q8;
      crossfade_active = m.crossfade_active;
      stealing_policy = m.stealing_policy;
    }

-- "t saturates at 255."
abbrev pub next_t : Mixer → ℕ
next_t m = min 255 (m.crossfade_t_q8 + m.crossfade_step_q8)

-- "At a fade's end that rule goes with the source." (document 02)
abbrev pub marks_ended : Marks → Marks
marks_ended k = marked_at 0 (get_or k.voices 1 nothing) k

unfoldable pub marks_advanced : Mixer → Marks → Marks
marks_advanced m k = cond m.crossfade_active (cond (eqb (next_t m) 255) (marks_ended k) k) k

-- "advance the fade", by the call that began it
unfoldable pub advanced_by : Bool → Mixer → Mixer
advanced_by on m = cond m.crossfade_active (cond (eqb (next_t m) 255) (fade_ended_by on m) (fade_at m (next_t m))) m

-- document 01's
abbrev pub advanced : Mixer → Mixer
advanced m = advanced_by false m
