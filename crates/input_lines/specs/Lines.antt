-- What bytes make of a line: a newline ends it, and so does a byte that finds no room in its cells. Assumes nothing.
use Rattle.std.specs.Prelude.{◌≡◌, ℕ, suc, Bool, true, false, cond, ◌||◌, List, [], ◌∷◌, eqb, leb, length, set}
use Rattle.input_lines.specs.declared.Filled.{Filled}

-- the cells, how many are the line's, the place after what was read, and whether the line ended
pub record Line : Type 0 where
  pub cells : List ℕ
  pub count : ℕ
  pub next : ℕ
  pub ended : Bool

-- bytes that begin at place i, onto the first n cells
unfoldable pub lined : List ℕ → ℕ → ℕ → List ℕ → Line
lined cells n i [] = record { cells = cells; count = n; next = i; ended = false }
lined cells n i (b ∷ bs) =
    cond (eqb b 10 || leb (length cells) n)
    (record { cells = cells; count = n; next = suc i; ended = true })
    (lined (set cells n b) (suc n) (suc i) bs)

pub record Fills (l : Line) (after : List ℕ) (r : Filled) : Type 0 where
  pub cells : after ≡ l.cells
  pub count : r.line ≡ l.count
  pub next : r.next ≡ l.next
  pub ended : r.ended ≡ l.ended
