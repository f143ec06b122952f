-- What the part promises, in its box. Assumes nothing.
use mathlib.Core.Bool.{false}
use Rattle.sounder.proofs.Heard.{faded-heard}
use Rattle.sounder.proofs.Valid.{faded-order}
use Rattle.sounder.proofs.Sounder.crossfade_to.Goals as goal

pub faded-requires : goal.faded-requires
faded-requires c =
    let g = c.crossfade_to-c.ensures in
    rw (← c.self.view_is) (g.valid, faded-order false c.self.invariant.present g (faded-heard _ _ _ _ _))
