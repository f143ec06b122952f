-- Cells that are all written, one after another. Assumes nothing.
use mathlib.Core.Path.{◌≡◌, ◌∙◌}
use mathlib.Core.List.{List, append-nil}
use native.Mathlib.Omega.{arith}
use lib.ListN.{length}
use lib.Seq.{sets, drop-length}
use Rattle.laws.proofs.Stores.{cells_of, length-cells, sets-front}

-- a run that gives one value a step, stored in as many cells as there are
pub whole-run : {S A : Type 0} (step : S → S) (gives : S → A) (cells : List A) (s : S)
    → sets cells 0 (cells_of step gives (length cells) s) ≡ cells_of step gives (length cells) s
whole-run step gives cells s =
    sets-front cells (cells_of step gives (length cells) s) (length cells) (length-cells step gives (length cells) s) (omega arith)
    ∙ rw (drop-length cells, append-nil)
