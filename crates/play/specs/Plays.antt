-- Play requests, tone and PolyBLEP starts. Assumes nothing.
use Rattle.std.specs.Prelude.{ℕ, Bool, cond, List, eqb, set, Err, Ok}
use Rattle.error.specs.Told.{Told, value, refused, and_then, refusal}
use Rattle.polyblep.specs.declared.PolyBlepWaveform.{PolyBlepWaveform}
use Rattle.start.specs.Starts.{request_start, request_start_under, tone_voice, poly_blep_voice}
use Rattle.start.specs.declared.Request.{Request}
use Rattle.tone.specs.declared.Waveform.{Waveform}
use Rattle.voice.specs.Voices as W
use Rattle.voice.specs.declared.Voice.{Voice}
use Rattle.mixer.specs.Mixers.{Valid, with_voices}
use Rattle.allocate.specs.Allocation.{allocated, allocated_in}
use Rattle.marks.specs.declared.Present.{Present}
use Rattle.mixer.specs.declared.Mixer.{Mixer}
use Rattle.play.specs.declared.Played.{Played}

abbrev pub ValidPlayed : Played → Type 0
ValidPlayed p = Valid p.mixer

-- "A refusal changes nothing"
abbrev pub not_played : Mixer → ℕ → Played
not_played m n = record { outcome = Err (refusal n); mixer = m }

-- The place and the voice that a request gets. A play request passes its places in the table's order: allocation (5), then all that
-- `request_start_under` may refuse.
abbrev pub placed_by : Told ℕ → Told Voice → Told (ℕ × Voice)
placed_by place start = and_then place (λ i. and_then start (λ v. value (i, v)))

abbrev pub ValidPlaced : ℕ × Voice → Type 0
ValidPlaced p = W.Valid p.1

abbrev pub played_at : Mixer → Told (ℕ × Voice) → Played
played_at m (refused n) = not_played m n
played_at m (value p) = record { outcome = Ok p.0; mixer = with_voices m (set m.voices p.0 p.1) }

-- by document 01
unfoldable pub played : Mixer → List ℕ → Request → Played
played m bytes r = played_at m (placed_by (allocated m r.priority) (request_start m.bank bytes r))

-- what a request makes of the mixer's state by the rules of a box, true for the present one: which voice it gets, and the number of a payload that fails
unfoldable pub played_under : Bool → Present → List ℕ → Request → Played
played_under present p bytes r = played_at p.mixer (placed_by (allocated_in present p r.priority) (request_start_under present p.mixer.bank bytes r))

-- "with N = 0 they do nothing, else voice 0 becomes" v
unfoldable pub first_sounding : Mixer → Voice → Mixer
first_sounding m v = cond (eqb m.n 0) m (with_voices m (set m.voices 0 v))

unfoldable pub toned : Mixer → ℕ → ℕ → Waveform → Mixer
toned m hz ms waveform = first_sounding m (tone_voice hz ms waveform m.config.sample_rate_hz)

unfoldable pub poly_bleped : Mixer → ℕ → ℕ → PolyBlepWaveform → Mixer
poly_bleped m hz ms waveform = first_sounding m (poly_blep_voice hz ms waveform m.config.sample_rate_hz)
