-- What callers cite of a script's lines and of a run's answers. Assumes nothing.
use Prim.Native.Nat.{ℕ, ◌≤◌, ◌<◌}
use mathlib.Core.Path.{◌≡◌, refl, ap, ◌∙◌}
use mathlib.Core.Bool.{Bool, false}
use mathlib.Core.List.{List, [], ◌∷◌, ◌++◌}
use native.Mathlib.Omega.{arith}
use lib.Dec.{eqb}
use lib.ListN.{length, drop}
use lib.Seq.{take_all}
use Rattle.laws.specs.Lists.{All}
use Rattle.exports_replay.specs.Lines.{before, lines_of, joined}
use Rattle.exports_replay.specs.Runs.{Poured}
use Rattle.exports_replay.specs.declared.Ran.{Ran}

-- where the length is at most the buffer's, all is there
pub all_there : {A : Type 0} {all before after : List A} {good : Bool} {r : Ran} → Poured all good before after r → length all ≤ length before
    → after ≡ all ++ drop (length all) before
all_there {all = all} {before = before} p h = rw (take_all (length before) all h) at p.content

-- no byte of a line ends it
abbrev pub OneLine : List ℕ → Type 0
OneLine l = All (λ b. eqb b 10 ≡ false) l

-- a line with its newline, and other bytes
pub line_first : (l rest : List ℕ) → OneLine l → lines_of (l ++ (10 ∷ rest)) ≡ l ∷ lines_of rest
unfolding lines_of
line_first [] rest h = refl
line_first (b ∷ l) rest h = rw h.0 (ap (before b) (line_first l rest h.1))

-- a last line that lacks it
pub line-last : (l : List ℕ) → OneLine l → 0 < length l → lines_of l ≡ l ∷ []
unfolding lines_of
line-last [] h k = absurd (omega arith)
line-last (b ∷ []) h k = rw h.0
line-last (b ∷ c ∷ l) h k = rw h.0 (ap (before b) (line-last (c ∷ l) h.1 (omega arith)))

-- joined lines are cut into the lines that they were
pub lines-joined : (ls : List (List ℕ)) → All OneLine ls → lines_of (joined ls) ≡ ls
unfolding lines_of joined
lines-joined [] h = refl
lines-joined (l ∷ ls) h = line_first l (joined ls) h.0 ∙ ap (λ (r : List (List ℕ)). l ∷ r) (lines-joined ls h.1)
