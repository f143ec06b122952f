-- Document 01: "Program `framelist` reads lines of hexadecimal, one record a line." Document 02 makes its box one of the present rules
-- (T-03: "`framelist` prints 01FF, 021B, 0246"). Where no document is named, a sentence is document 01's. Assumes nothing.
use Rattle.std.specs.Prelude.{◌≡◌, ℕ, Bool, true, false, cond, ◌&&◌, List, [], ◌∷◌, ◌++◌, eqb, leb, length, drop}
use Rattle.laws.specs.Runs.{after, given}
use Rattle.config.specs.declared.AudioConfig.{AudioConfig}
use Rattle.entering.specs.declared.Lined.{Lined}
use Rattle.output.specs.declared.DutyMode.TheVariants as D
use Rattle.mixer.specs.declared.VoiceStealingPolicy.TheVariants as P
use Rattle.sounder.specs.Calls.{opened, toned}
use Rattle.sounder.specs.Frames.{duty_box}
use Rattle.sounder.specs.Sounders.{After}
use Rattle.hex_digits.specs.Hex.{all_digits, byte_at, wide_at, long_at, hex_of, newline, Wrote}
use Rattle.replay_fields.specs.Read.{tone_waveform}
use Rattle.framelist_answers.specs.declared.Answered.{Answered}

-- "It opens 2 voices, 16,000 Hz, period 1,000, Linear, master 255." The policy counts for nothing here: a tone takes voice 0.
abbrev pub list_config : AudioConfig
list_config = record { sample_rate_hz = 16000; pwm_period = 1000; duty_mode = D.Linear; master_gain_q8 = 255 }

unfoldable pub started : Lined
started = (opened 2 list_config P.LowestPriorityOldest).lined

-- what a line makes of a run: the text that answers it, whether the run goes on, and the box after it
pub record Answer : Type 0 where
  pub text : List ℕ
  pub more : Bool
  pub lined : Lined

-- "prints FFFF and ends"
abbrev pub bad_answer : Lined → Answer
bad_answer s = record { text = hex_of 4 0xFFFF ++ newline; more = false; lined = s }

-- "01: Hz (4 bytes, big-endian), ms (2), waveform 00 square, 01 sine, 02 triangle."
abbrev pub is_tone : List ℕ → Bool
is_tone l = eqb (length l) 16 && (eqb (byte_at l 0) 0x01 && leb (byte_at l 7) 2)

abbrev pub tone_answer : Lined → List ℕ → Answer
tone_answer s l =
    record { text = []; more = true; lined = toned s (long_at l 1) (wide_at l 5) (tone_waveform (byte_at l 7)) }

-- "02: a one-byte number of frames."
abbrev pub is_frames : List ℕ → Bool
is_frames l = eqb (length l) 4 && eqb (byte_at l 0) 0x02

-- one frame, as `tick` gives it; no bank is lent, and none waits
abbrev pub ticked : Lined → After ℕ
ticked s = duty_box [] s

abbrev pub next : Lined → Lined
next s = (ticked s).lined

-- "Each output line is one duty in four digits"
abbrev pub duty_line : Lined → List ℕ
duty_line s = hex_of 4 (ticked s).gave ++ newline

abbrev pub frames_answer : ℕ → Lined → Answer
frames_answer n s = record { text = given next duty_line n s; more = true; lined = after next n s }

-- "a line of another first byte, length, waveform or digit (0–9, A–F) prints FFFF and ends"
abbrev pub record_answer : Lined → List ℕ → Answer
record_answer s l = cond (is_tone l) (tone_answer s l) (cond (is_frames l) (frames_answer (byte_at l 1) s) (bad_answer s))

unfoldable pub line_answer : Lined → List ℕ → Answer
line_answer s l = cond (all_digits l) (record_answer s l) (bad_answer s)

-- all that a list of lines prints
unfoldable pub printed : Lined → List (List ℕ) → List ℕ
printed s [] = []
printed s (l ∷ ls) = let a = line_answer s l in a.text ++ cond a.more (printed a.lined ls) []

abbrev pub framelist : List (List ℕ) → List ℕ
framelist ls = printed started ls

-- an answer that was laid over a buffer from its front on, and the box s after it, which is valid as every box is
pub record Told (a : Answer) (before after : List ℕ) (r : Answered) (s : Lined) : Type 0 where
  pub laid : Wrote before 0 a.text after r.len
  pub more : r.more ≡ a.more
  pub lined : s ≡ a.lined

-- the text stands before the rest of what the buffer held
pub record Answers (a : Answer) (before after : List ℕ) (r : Answered) (s : Lined) : Type 0 where
  pub text : after ≡ a.text ++ drop (length a.text) before
  pub len : r.len ≡ length a.text
  pub more : r.more ≡ a.more
  pub lined : s ≡ a.lined
