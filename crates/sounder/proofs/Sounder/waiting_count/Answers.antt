-- `Sounder::waiting_count` meets its contract: a valid line's count is how many it has. Assumes nothing.
use mathlib.Core.Path.{refl, sym}
use Rattle.waiting.proofs.Laws.{length-line}
use Rattle.sounder.proofs.Sounder.waiting_count.Goals as goal

pub returns : goal.returns
returns c = rw (sym c.self.view_is) (record { count = refl; whole = sym (length-line c.self.invariant.line) })
