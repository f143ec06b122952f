-- A state of the present rules with its line and the kept refusal. Assumes nothing.
use Rattle.std.specs.Prelude.{Option, ℕ}
use Rattle.marks.specs.Marks as M
use Rattle.marks.specs.declared.Present.{Present}
use Rattle.waiting.specs.Lines as W
use Rattle.waiting.specs.declared.Line.{Line}
use Rattle.entering.specs.declared.Lined.{Lined}
use Rattle.error.specs.declared.AudioError.{AudioError}

-- what every such value that a call takes or gives has
pub record Valid (s : Lined) : Type 0 where
  pub present : M.Valid s.present
  pub line : W.Valid s.line

abbrev pub lined : Present → Option (AudioError × ℕ) → Line → Lined
lined p k l = record { present = p; line = l; kept = k }
