-- A run over lines, "drives one engine through its public calls": document 01's box or one of the present rules. Assumes nothing.
use Rattle.std.specs.Prelude.{ℕ, zero, suc, ◌+◌, ◌-◌, ◌/◌, ◌%◌, ◌≡◌, Bool, true, false, cond, ◌&&◌, List, [], ◌∷◌, ◌++◌, leb, eqb, length, drop, replicate, Option, Some, None, Result, Ok, Err}
use Rattle.config.specs.declared.AudioConfig.{AudioConfig}
use Rattle.error.specs.Numbers.{number_of}
use Rattle.error.specs.declared.AudioError.{AudioError}
use Rattle.mixer.specs.declared.VoiceStealingPolicy.{VoiceStealingPolicy}
use Rattle.mixer.specs.declared.VoiceStealingPolicy.TheVariants as P
use Rattle.hex_digits.specs.Hex.{all_digits, byte_at, wide_at, long_at, hex_of, newline, Wrote}
use Rattle.replay_fields.specs.Read.{mode_of}
use Rattle.replay_box.specs.Boxes.{Gave, opened}
use Rattle.replay_box.specs.declared.OpenBox.{OpenBox}
use Rattle.replay_box.specs.declared.Rules.{Rules}
use Rattle.replay_box.specs.declared.Rules.TheVariants.{First, Present}
use Rattle.replay_calls.specs.Calls.{sized_as}
use Rattle.replay_calls.specs.declared.Reply.{Reply}
use Rattle.replay_calls.specs.declared.Reply.TheVariants as R
use Rattle.replay_fills.specs.Fills.{Fill, buffer_of, fill_for}
use Rattle.replay_fills.specs.declared.Buffer.{Buffer}
use Rattle.replay_leaves.specs.Replies.{reply_of}
use Rattle.replay_leaves.specs.Answers as A
use Rattle.replay_leaves.specs.declared.Answered.{Answered}
use Rattle.replay_replies.specs.Texts.{bad_text, reply_text}
use Rattle.replay_waits.specs.Waits.{asked_of, called_any}
use Rattle.replay_waits.specs.declared.Asked.{Asked}
use Rattle.replay_session.specs.Runs.{Run, lent_in, with_box}
use Rattle.replay_session.specs.declared.Asks.{Asks}
use Rattle.replay_session.specs.declared.Asks.TheVariants as K

-- what a line makes of a run: the text that answers it, whether the run goes on, and the run after it
pub record Answer : Type 0 where
  pub text : List ℕ
  pub more : Bool
  pub run : Run

-- "at first nothing is lent"
abbrev pub started : Run
started = record { cells = replicate 4096 0; count = 0; held = None }

-- "prints FFFF and ends the run"
abbrev pub bad_line : Run → Answer
bad_line s = record { text = bad_text; more = false; run = s }

-- 10 and 70, open: "N (1), rate (4), period (2), duty mode (1), master gain (1), policy (1) | number"
abbrev pub policy_of : ℕ → VoiceStealingPolicy
policy_of n = cond (eqb n 0) P.LowestPriorityOldest P.FreeChannelOnly

abbrev pub config_at : List ℕ → AudioConfig
config_at l =
    record {
      sample_rate_hz = long_at l 2;
      pwm_period = wide_at l 6;
      duty_mode = mode_of (byte_at l 8);
      master_gain_q8 = byte_at l 9;
    }

-- "A bad field, as a duty mode of 3, makes the line bad before any refusal is looked for."
abbrev pub opens : List ℕ → Bool
opens l = sized_as 10 l && (leb (byte_at l 8) 2 && leb (byte_at l 10) 1)

-- "A second 10 that is accepted replaces the engine; one that is refused leaves the old one. The lent bytes stay over both". So with either
-- kind of box.
abbrev pub opened_as : Run → Result OpenBox AudioError → Answer
opened_as s (Ok b) = record { text = hex_of 2 0 ++ newline; more = true; run = with_box s b }
opened_as s (Err e) = record { text = hex_of 2 (number_of e) ++ newline; more = true; run = s }

-- "10 opens document 01's box, 70 .. one of the present rules, at any time"
unfoldable pub open_answer : Rules → Run → List ℕ → Answer
open_answer rules s l = cond (opens l) (opened_as s (opened rules (byte_at l 1) (config_at l) (policy_of (byte_at l 10)))) (bad_line s)

-- n bytes of a line, from byte k on
unfoldable pub bytes_at : List ℕ → ℕ → ℕ → List ℕ
bytes_at l k zero = []
bytes_at l k (suc n) = byte_at l k ∷ bytes_at l (k + 1) n

-- 12, lend: "0 to 4,096 bytes, lent to every later call | nothing". It may come before an engine is open ("12 too").
abbrev pub lent_bytes : List ℕ → ℕ
lent_bytes l = length l / 2 - 1

-- the bytes go over the first cells; nothing else touches the cells
abbrev pub lent_over : Run → List ℕ → Run
lent_over s l = record { cells = bytes_at l 1 (lent_bytes l) ++ drop (lent_bytes l) s.cells; count = lent_bytes l; held = s.held }

unfoldable pub lend_answer : Run → List ℕ → Answer
lend_answer s l = cond (eqb (length l % 2) 0) (record { text = []; more = true; run = lent_over s l }) (bad_line s)

-- a bad line "ends the run"
abbrev pub goes_on : Reply → Bool
goes_on R.Bad = false
goes_on R.Nothing = true
goes_on (R.Number n) = true
goes_on (R.Two a b) = true
goes_on (R.Wide n) = true
goes_on (R.WideTwo a b) = true
goes_on (R.Labelled a b) = true
goes_on (R.Entry e) = true
goes_on R.Payload = true
goes_on R.Dump = true
goes_on R.Policy = true
goes_on R.Configuration = true
goes_on (R.Voice i) = true
goes_on R.Ranks = true
goes_on R.Waiting = true

abbrev pub called_answer : Run → List ℕ → Gave Reply → Answer
called_answer s l c = record { text = reply_text c.gave l (lent_in s) c.held; more = goes_on c.gave; run = with_box s c.held }

-- 11, 13 to 1D, 2B, 2C, 30, 62 to 69, 73 to 7A: "any record but 10 and the 4x ones before an engine is open" is bad
abbrev pub called_by : Asked → Run → List ℕ → Option OpenBox → Answer
called_by asked s l None = bad_line s
called_by asked s l (Some b) = called_answer s l (called_any asked l (lent_in s) b)

unfoldable pub call_answer : Asked → Run → List ℕ → Answer
call_answer asked s l = called_by asked s l s.held

-- 20 to 2A: "cells (2) | filled". "At most 2,048 cells in one record."
abbrev pub fill_allowed : List ℕ → Bool
fill_allowed l = sized_as 2 l && leb (wide_at l 1) 2048

abbrev pub filled_answer : Run → Fill → Answer
filled_answer s f = record { text = f.text; more = true; run = with_box s f.held }

abbrev pub filled_by : Buffer → Run → List ℕ → Option OpenBox → Answer
filled_by buffer s l None = bad_line s
filled_by buffer s l (Some b) = filled_answer s (fill_for buffer (wide_at l 1) (lent_in s) b)

unfoldable pub fill_answer : Buffer → Run → List ℕ → Answer
fill_answer buffer s l = cond (fill_allowed l) (filled_by buffer s l s.held) (bad_line s)

-- the records that need no engine, 40 and up, and the codes of none
unfoldable pub alone_answer : Run → List ℕ → Answer
alone_answer s l = record { text = A.reply_text l; more = A.goes_on (reply_of l); run = s }

-- a call of the open box, a buffer of it, or neither
abbrev pub asks_box : Option Asked → Option Buffer → Asks
asks_box (Some asked) buffer = K.Call asked
asks_box None (Some buffer) = K.Fill buffer
asks_box None None = K.Alone

unfoldable pub asks_of : ℕ → Asks
asks_of code =
    cond (eqb code 0x10) (K.Open First)
    (cond (eqb code 0x70) (K.Open Present)
    (cond (eqb code 0x12) K.Lend (asks_box (asked_of code) (buffer_of code))))

abbrev pub answer_for : Asks → Run → List ℕ → Answer
answer_for (K.Open rules) s l = open_answer rules s l
answer_for K.Lend s l = lend_answer s l
answer_for (K.Call asked) s l = call_answer asked s l
answer_for (K.Fill buffer) s l = fill_answer buffer s l
answer_for K.Alone s l = alone_answer s l

-- "No good line is longer than 8,194 digits; a longer one is bad"
abbrev pub is_line : List ℕ → Bool
is_line l = leb (length l) 8194 && all_digits l

unfoldable pub session_answer : Run → List ℕ → Answer
session_answer s l = cond (is_line l) (answer_for (asks_of (byte_at l 0)) s l) (bad_line s)

-- a text that was laid over a buffer from its front on, and whether the run goes on
pub record Laid (text : List ℕ) (goes : Bool) (before after : List ℕ) (r : Answered) : Type 0 where
  pub laid : Wrote before 0 text after r.len
  pub more : r.more ≡ goes

-- an answer that was laid so, and the run after it
pub record Does (a : Answer) (before after : List ℕ) (s : Run) (r : Answered) : Type 0 where
  pub laid : Laid a.text a.more before after r
  pub run : s ≡ a.run

-- the text stands before the rest of what the buffer held
pub record Answers (a : Answer) (before after : List ℕ) (s : Run) (r : Answered) : Type 0 where
  pub text : after ≡ a.text ++ drop (length a.text) before
  pub len : r.len ≡ length a.text
  pub more : r.more ≡ a.more
  pub run : s ≡ a.run
