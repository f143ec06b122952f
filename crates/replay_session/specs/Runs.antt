-- What a run over lines keeps. Assumes nothing.
use Rattle.std.specs.Prelude.{ℕ, List, Option, Some, take}
use Rattle.replay_box.specs.declared.OpenBox.{OpenBox}

-- the cells for the bytes lent, how many of them are lent, and the box that is open, if one is
pub record Run : Type 0 where
  pub cells : List ℕ
  pub count : ℕ
  pub held : Option OpenBox

-- the bytes lent: of the cells the first
abbrev pub lent_in : Run → List ℕ
lent_in s = take s.count s.cells

-- another box, or the one that is open after a call
abbrev pub with_box : Run → OpenBox → Run
with_box s b = record { cells = s.cells; count = s.count; held = Some b }
