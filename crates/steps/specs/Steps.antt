-- Document 01's calls as steps in any order, to any box that has them, and how long a fade takes among them (document 02, T-02). Assumes
-- nothing.
use Rattle.std.specs.Prelude.{ℕ, ◌≡◌, Bool, true, false, List}
use Rattle.config.specs.Config.{fade_step}
use Rattle.envelope.specs.declared.AdsrSpec.{AdsrSpec}
use Rattle.error.specs.Told.{told, Told, value, refused}
use Rattle.frame.specs.Fades.{advanced}
use Rattle.frame.specs.Lasting.{fade_count, SameFade, Box, Step, unbroken, Lasts}
use Rattle.mixer.specs.Mixers.{panned, with_master_gain, stopped, banked}
use Rattle.mixer.specs.declared.Mixer.{Mixer}
use Rattle.play.specs.Fades.{faded}
use Rattle.play.specs.Plays.{played, toned, poly_bleped}
use Rattle.polyblep.specs.declared.PolyBlepWaveform.{PolyBlepWaveform}
use Rattle.start.specs.declared.Request.{Request}
use Rattle.tone.specs.declared.Waveform.{Waveform}

-- the calls that make one frame: tick_pcm; tick and tick_pwm; tick_stereo_pcm and tick_stereo_i16
pub data Frame : Type 0 where
  mono : Frame
  duty : Frame
  stereo : Frame

-- The other calls that give a box back, with what each is given. A buffer call is so many frames, and a list of requests so many plays
-- (proofs/Steps.antt frame-run, play-run).
pub data Call : Type 0 where
  -- bytes lent, request
  play : List ℕ → Request → Call
  -- Hz, ms, waveform
  tone : ℕ → ℕ → Waveform → Call
  poly_blep : ℕ → ℕ → PolyBlepWaveform → Call
  -- rate, count, how many bytes
  bank : ℕ → ℕ → ℕ → Call
  -- voice, pan
  pan : ℕ → ℕ → Call
  master_gain : ℕ → Call
  stop : Call
  -- bytes lent, id, ms, envelope
  fade : List ℕ → ℕ → ℕ → AdsrSpec → Call
  -- a search, or any call that gives no box back: the caller has the one that he handed in
  look : Call

-- ---- what document 01 makes of a mixer's state by each
abbrev pub called_mixer : Call → Mixer → Mixer
called_mixer (play bytes r) m = (played m bytes r).mixer
called_mixer (tone hz ms waveform) m = toned m hz ms waveform
called_mixer (poly_blep hz ms waveform) m = poly_bleped m hz ms waveform
called_mixer (bank rate count len) m = (banked m rate count len).mixer
called_mixer (pan i q) m = panned m i q
called_mixer (master_gain gain) m = with_master_gain m gain
called_mixer stop m = stopped m
called_mixer (fade bytes id ms adsr) m = (faded m bytes id ms adsr).mixer
called_mixer look m = m

abbrev pub turned_down : Told (Unit {0}) → Bool
turned_down (value u) = false
turned_down (refused n) = true

-- "where no stop, no other fade comes between": a fade that is turned down is none
abbrev pub goes_on_from : Call → Mixer → Bool
goes_on_from (play bytes r) m = true
goes_on_from (tone hz ms waveform) m = true
goes_on_from (poly_blep hz ms waveform) m = true
goes_on_from (bank rate count len) m = true
goes_on_from (pan i q) m = true
goes_on_from (master_gain gain) m = true
goes_on_from stop m = false
goes_on_from (fade bytes id ms adsr) m = turned_down (told (faded m bytes id ms adsr).outcome)
goes_on_from look m = true

-- ---- a box that has these calls: states that have a mixer's state in them, and the state after each call
pub record Stepper (State : Type 0) : Type 0 where
  pub mixer : State → Mixer
  pub framed : Frame → State → State
  pub called : Call → State → State

module _ {State : Type 0} (b : Stepper State) where
  abbrev pub box : Box State Frame Call
  box = record { mixer = b.mixer; framed = b.framed; called = b.called; goes_on = λ c s. goes_on_from c (b.mixer s) }

  -- What the promise follows from: the box's calls do to its fade what document 01's do. What they do to voices, and to what stands beside
  -- them, is the box's to say.
  pub record ByRule : Type 0 where
    pub advances : (f : Frame) (s : State) → SameFade (b.mixer (b.framed f s)) (advanced (b.mixer s))
    pub calls : (c : Call) (s : State) → SameFade (b.mixer (b.called c s)) (called_mixer c (b.mixer s))

-- What document 02 promises of a fade that a box accepts, which may have other calls too: from the fade's call on, which made `begun` of s, it takes
-- its count of frames, whatever steps come.
pub record FadeTakes {State Frames Calls : Type 0} (b : Box State Frames Calls) (s begun : State) (ms : ℕ) : Type 0 where
  pub takes : (ss : List (Step Frames Calls)) → unbroken b ss begun ≡ true → Lasts b (fade_count (fade_step ms (b.mixer s).config.sample_rate_hz)) begun ss
