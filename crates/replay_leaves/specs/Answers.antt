-- The text that answers a line. Assumes nothing.
use Rattle.std.specs.Prelude.{◌≡◌, ℕ, Bool, true, false, List, ◌++◌, length, drop}
use Rattle.hex_digits.specs.Hex.{hex_of, newline}
use Rattle.replay_leaves.specs.Replies.{reply_of}
use Rattle.replay_leaves.specs.Runs.{levels_text, state_text, duties_text}
use Rattle.replay_leaves.specs.Sounds.{source_text, restored_text}
use Rattle.replay_leaves.specs.Voices.{voice_text}
use Rattle.replay_leaves.specs.Planning.{counts_text}
use Rattle.replay_patterns.specs.Records.{pattern_text, reader_text}
use Rattle.replay_banks.specs.Record.{bank_text}
use Rattle.replay_leaves.specs.declared.Reply.{Reply}
use Rattle.replay_leaves.specs.declared.Reply.TheVariants.{Bad, Word, Levels, State, Duties, Source, Voice, Restored, Pattern, Recording, Bank, Counts}
use Rattle.replay_leaves.specs.declared.Answered.{Answered}

-- a bad line "prints FFFF"
abbrev pub text_of : Reply → List ℕ → List ℕ
text_of Bad l = hex_of 4 0xFFFF ++ newline
text_of (Word value digits) l = hex_of digits value ++ newline
text_of Levels l = levels_text l
text_of State l = state_text l
text_of Duties l = duties_text l
text_of Source l = source_text l
text_of Voice l = voice_text l
text_of Restored l = restored_text l
text_of Pattern l = pattern_text l
text_of Recording l = reader_text l
text_of Bank l = bank_text l
text_of Counts l = counts_text l

unfoldable pub reply_text : List ℕ → List ℕ
reply_text l = text_of (reply_of l) l

-- a bad line "ends the run"
abbrev pub goes_on : Reply → Bool
goes_on Bad = false
goes_on (Word value digits) = true
goes_on Levels = true
goes_on State = true
goes_on Duties = true
goes_on Source = true
goes_on Voice = true
goes_on Restored = true
goes_on Pattern = true
goes_on Recording = true
goes_on Bank = true
goes_on Counts = true

-- the text stands before the rest of what the buffer held
pub record Answers (l before after : List ℕ) (r : Answered) : Type 0 where
  pub text : after ≡ reply_text l ++ drop (length (reply_text l)) before
  pub len : r.len ≡ length (reply_text l)
  pub more : r.more ≡ goes_on (reply_of l)
