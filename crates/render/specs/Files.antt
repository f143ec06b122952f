-- The sound file as it is kept, and times in it. Assumes nothing.
use Rattle.std.specs.Prelude.{◌≡◌, ℕ, ◌+◌, ◌*◌, ◌/◌, min, Bool, cond, not, Result, Ok, Err, ◌&&◌, List, ◌++◌, length, take, ℤ, ◌==◌, nat_le, nat_lt, IsErr}
use Rattle.wav.specs.Wav.{wav_fits, cell_bytes}
use Rattle.render_texts.specs.declared.Clock.{Clock}
use Rattle.render.specs.declared.sound_file.SoundFile.{SoundFile}
use Rattle.render.specs.declared.file.Misfit.{Misfit}
use Rattle.render.specs.declared.file.Misfit.TheVariants as M

-- how many times 10 s have passed
abbrev pub tens_of : Clock → ℕ
tens_of c = cond (c.rate == 0) 0 (c.frames / (10 * c.rate))

-- frames and some more, held to 32 bits
abbrev pub more_frames : ℕ → ℕ → ℕ
more_frames frames more = min (frames + more) 0xFFFF_FFFF

-- a file without frames has the engine's rate, or 44,100 where that is 0, which players turn down
abbrev pub rate_of_none : ℕ → ℕ
rate_of_none rate = cond (rate == 0) 44100 rate

-- what the header says of the sound
abbrev pub last_clock : Clock → ℕ → Clock
last_clock c rate = cond (nat_lt 0 c.frames) c (record { frames = 0; rate = rate_of_none rate })

-- the rate changed after the first frame
abbrev pub other_rate : Clock → ℕ → Bool
other_rate c rate = nat_lt 0 c.frames && not (c.rate == rate)

-- a sound file has one rate, which is not 0, and sizes of 32 bits
unfoldable pub room_for : Clock → ℕ → ℕ → Result (Unit {0}) Misfit
room_for c rate cells =
    cond (rate == 0) (Err M.NoRate)
    (cond (other_rate c rate) (Err M.OtherRate)
    (cond (wav_fits rate (more_frames c.frames (cells / 2))) (Ok tt)
    (Err M.TooLong)))

-- of 65,536 bytes so many are held back; they are written once a line's cells, 8,192 bytes, might not have room after them
abbrev pub held_count : ℕ → ℕ
held_count held = cond (nat_le held 57344) held 0

-- a file with so many bytes held back and so much sound; whether all was written well is not known beforehand, and a failure stays one
pub record Kept (f : SoundFile) (n : ℕ) (c : Clock) (r : SoundFile) : Type 0 where
  pub held : r.held ≡ n
  pub clock : r.clock ≡ c
  pub file : r.file ≡ f.file
  pub failed : IsErr f.written → IsErr r.written

-- the clock after some cells
abbrev pub clock_after : Clock → ℕ → List ℤ → Clock
clock_after c rate cells = record { frames = more_frames c.frames (length cells / 2); rate = rate }

-- the cells' bytes stand behind those that were held back
pub record Adds (f : SoundFile) (rate : ℕ) (cells : List ℤ) (before after : List ℕ) (r : SoundFile) : Type 0 where
  pub bytes : take r.held after ≡ take (held_count f.held) before ++ cell_bytes cells
  pub file : Kept f (held_count f.held + 2 * length cells) (clock_after f.clock rate cells) r
