-- Document 01, "Voices and the rule for handing them out": what a start puts in. Assumes nothing.
use Rattle.std.specs.Prelude.{ℕ, Bool, true, false, cond, ltb, List, None, Option, Some}
use Rattle.bank.specs.Banks.{payload_under}
use Rattle.bank.specs.Search.{found_given}
use Rattle.bank.specs.declared.EffectEntry.{EffectEntry}
use Rattle.envelope.specs.Adsrs.{click_spec}
use Rattle.envelope.specs.declared.AdsrSpec.{AdsrSpec}
use Rattle.error.specs.Told.{Told, value, refused, and_then}
use Rattle.polyblep.specs.declared.PolyBlepWaveform.{PolyBlepWaveform}
use Rattle.tone.specs.declared.Waveform.{Waveform}
use Rattle.voice.specs.Sources.{started_entry, tone_source, poly_blep_source}
use Rattle.voice.specs.Voices.{silent_voice, triggered_voice}
use Rattle.voice.specs.declared.Voice.{Voice}
use Rattle.voice.specs.declared.source.VoiceSource.{VoiceSource}
use Rattle.start.specs.declared.Request.{Request}
use Rattle.bank.specs.declared.SoundBank.{SoundBank}

-- a silent voice at this rate with this gain, priority and source, and its envelope, triggered
unfoldable pub started_voice : ℕ → ℕ → ℕ → VoiceSource → AdsrSpec → Voice
started_voice rate gain priority source adsr =
    let v = silent_voice rate in
    triggered_voice
    (record {
      source = source;
      adsr = v.adsr;
      gain_q8 = gain;
      priority = priority;
      pan_q8 = v.pan_q8;
      sample_rate_hz = v.sample_rate_hz;
    })
    adsr

-- "kind 1, 3, 4 or 5 | 10"
unfoldable pub start_at : ℕ → EffectEntry → AdsrSpec → ℕ → Told Voice
start_at rate entry adsr priority =
    and_then (started_entry entry.kind entry.param0 entry.param1 rate)
    (λ source. value (started_voice rate entry.default_gain_q8 priority source adsr))

-- "An entry start puts in a silent voice at the bank's rate with the entry's gain, the request's priority and its envelope,
-- triggered." What its payload fails by, document 01's 4 or document 02's 15 and 16 (`parted`), comes before 10.
unfoldable pub entry_start_under : Bool → Option SoundBank → List ℕ → EffectEntry → AdsrSpec → ℕ → Told Voice
entry_start_under parted None bytes entry adsr priority = refused 6
entry_start_under parted (Some b) bytes entry adsr priority =
    and_then (payload_under parted (Some b) bytes entry.offset entry.len) (λ _. start_at b.sample_rate_hz entry adsr priority)

-- a play request's start: bank, entry search, entry start, in the table's order
unfoldable pub request_start_under : Bool → Option SoundBank → List ℕ → Request → Told Voice
request_start_under parted bank bytes r =
    and_then (found_given bank bytes r.id) (λ entry. entry_start_under parted bank bytes entry r.adsr r.priority)

-- by document 01
abbrev pub entry_start : Option SoundBank → List ℕ → EffectEntry → AdsrSpec → ℕ → Told Voice
entry_start bank bytes entry adsr priority = entry_start_under false bank bytes entry adsr priority

abbrev pub request_start : Option SoundBank → List ℕ → Request → Told Voice
request_start bank bytes r = request_start_under false bank bytes r

-- a voice is given
abbrev pub starts : Told Voice → Bool
starts (value v) = true
starts (refused n) = false

-- "A request is sound where no condition that turns down a play request, number 5 left out, holds for it with the engine's bank and the
-- lent bytes; with no bank set none is sound."
unfoldable pub sound_request : Option SoundBank → List ℕ → Request → Bool
sound_request bank bytes r = starts (request_start bank bytes r)

-- a voice at a rate that an engine can have: "sample rate above 65,537 | 2"
unfoldable pub at_rate : ℕ → Voice → Told Voice
at_rate rate v = cond (ltb 65537 rate) (refused 2) (value v)

-- "voice 0 becomes a silent voice at the engine's rate with that source and a click envelope, triggered": gain 255 and priority 0 are the
-- silent voice's
unfoldable pub tone_voice : ℕ → ℕ → Waveform → ℕ → Voice
tone_voice hz ms waveform rate = started_voice rate 255 0 (tone_source hz ms waveform rate) click_spec

unfoldable pub poly_blep_voice : ℕ → ℕ → PolyBlepWaveform → ℕ → Voice
poly_blep_voice hz ms waveform rate = started_voice rate 255 0 (poly_blep_source hz ms waveform rate) click_spec
