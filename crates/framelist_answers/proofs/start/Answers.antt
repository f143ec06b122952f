-- The box is the one that opening gave. Assumes nothing.
use mathlib.Core.Path.{ap}
use Rattle.sounder.specs.Calls.{Outcome}
use Rattle.sounder.specs.Sounders.{After}
use Rattle.framelist_answers.specs.Lines.{started}
use Rattle.framelist_answers.proofs.start.Goals as goal

pub returns : goal.returns
unfolding started
returns c = let o = c.open-s.ensures in record { same = ap (λ (x : After Outcome). x.lined) o.same; valid = o.valid }
