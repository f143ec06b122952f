-- Document 01: "A click envelope rests in sustain at level 0, so a voice whose tone has ended remains audible until stopped, or until a
-- fade's release of it has run out." Assumes nothing.
use Rattle.std.specs.Prelude.{◌+◌, ◌≤◌, ◌≡◌, Bool, true, false, cond, List, [], ◌∷◌, ltb, length}
use Rattle.laws.specs.Durations.{samples_of}
use Rattle.envelope.specs.declared.AdsrSpec.{AdsrSpec}
use Rattle.envelope.specs.Adsrs.{click_spec}
use Rattle.envelope.specs.Rests.{Resting}
use Rattle.voice.specs.Sources.{active_source}
use Rattle.voice.specs.Voices.{audible, triggered_voice, ticked_voice, stepped_voice, stopped_voice, released_voice}
use Rattle.voice.specs.declared.Voice.{Voice}

-- one frame of a voice: "tick all envelopes .., take samples". "During a fade only voices 0 and 1 are sampled", so a frame may take none.
abbrev pub framed : Bool → Voice → Voice
framed sampled v = let t = ticked_voice v in cond sampled (stepped_voice t).voice t

-- a frame for each of the list
unfoldable pub frames : List Bool → Voice → Voice
frames [] v = v
frames (sampled ∷ l) v = frames l (framed sampled v)

-- v some frames after an envelope was triggered on it
abbrev pub later : AdsrSpec → Voice → List Bool → Voice
later spec v l = frames l (triggered_voice v spec)

-- of any envelope, whatever the source and the frames
pub record Remains (spec : AdsrSpec) (v : Voice) : Type 0 where
  -- "remains audible"
  pub remains : (l : List Bool) → audible (later spec v l) ≡ true
  -- "until stopped"
  pub stopped : (l more : List Bool) → audible (frames more (stopped_voice (later spec v l))) ≡ false
  -- "a voice whose tone has ended", "until a fade's release of it has run out": audible for fewer frames than the release is long
  pub released : (l more : List Bool) → active_source (later spec v l).source ≡ false
      → audible (frames more (released_voice (later spec v l))) ≡ ltb (length more) (samples_of spec.release_ms v.sample_rate_hz)

-- the sentence: 2 ms of attack and 40 ms of decay from its trigger a click envelope rests
pub record ClickRests (v : Voice) : Type 0 where
  pub rests : (l : List Bool) → samples_of 2 v.sample_rate_hz + samples_of 40 v.sample_rate_hz ≤ length l
      → Resting click_spec v.sample_rate_hz 0 (later click_spec v l).adsr
  pub audible : Remains click_spec v
