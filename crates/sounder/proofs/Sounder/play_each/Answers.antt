-- What the part promises, in its box. Assumes nothing.
use mathlib.Core.Bool.{true}
use Rattle.entering.specs.Lined as E
use Rattle.marks.specs.Marks.{Valid}
use Rattle.requests.specs.Presents.{player_by}
use Rattle.requests.proofs.Along.{each-along}
use Rattle.sounder.specs.Requests.{player}
use Rattle.sounder.specs.Sounders.{with_present}
use Rattle.sounder.proofs.Requests.{follows, boxed-valid}
use Rattle.sounder.proofs.Sounder.play_each.Goals as goal

pub returns : goal.returns
returns c =
    let p = c.play_each-self-inside in
    let l = c.self.inside.state in
    rw (← c.self.view_is)
    (each-along (player_by true) player (with_present l) (follows l) _ Valid E.Valid (boxed-valid l c.self.invariant) _ _ _ p.result _ p.ensures)
