-- A whole script: what its lines tell, one after another, until a bad line "ends the run". Assumes nothing.
use Rattle.std.specs.Prelude.{ℕ, min, ◌≡◌, Bool, true, false, cond, List, [], ◌∷◌, ◌++◌, ℤ, length, take, drop}
use Rattle.replay_session.specs.Runs.{Run}
use Rattle.replay_session.specs.Sessions.{started, session_answer}
use Rattle.render_sounds.specs.Sounds.{sound_of}
use Rattle.exports_replay.specs.Lines.{lines_of}
use Rattle.exports_replay.specs.declared.Ran.{Ran}

-- what the lines tell
module _ {A : Type 0} (tells : Run → List ℕ → List A) where
  unfoldable pub told : Run → List (List ℕ) → List A
  told s [] = []
  told s (l ∷ ls) = let a = session_answer s l in tells s l ++ cond a.more (told a.run ls) []

-- whether none of them is bad
unfoldable pub all_good : Run → List (List ℕ) → Bool
all_good s [] = true
all_good s (l ∷ ls) = let a = session_answer s l in cond a.more (all_good a.run ls) false

-- from the beginning
abbrev pub told_by : {A : Type 0} → (Run → List ℕ → List A) → List ℕ → List A
told_by tells script = told tells started (lines_of script)

abbrev pub is_good : List ℕ → Bool
is_good script = all_good started (lines_of script)

-- the answers of the lines
abbrev pub answers : List ℕ → List ℕ
answers script = told_by (λ s l. (session_answer s l).text) script

-- their sound
abbrev pub sounds : List ℕ → List ℤ
sounds script = told_by sound_of script

-- a length as a usize has it
abbrev pub capped : ℕ → ℕ
capped n = min n 18446744073709551615

-- As much of it as there is room for stands at the front of the buffer, and the rest is as before; the length that is given is the length of
-- all of it, so that all is there where it is at most the buffer's.
pub record Poured {A : Type 0} (all : List A) (all_good : Bool) (before after : List A) (r : Ran) : Type 0 where
  pub content : after ≡ take (length before) all ++ drop (length all) before
  pub len : r.len ≡ capped (length all)
  pub good : r.good ≡ all_good

-- a run's length and whether it was good, as two answers
abbrev pub ran : ℕ → Bool → Ran
ran len good = record { len = len; good = good }
