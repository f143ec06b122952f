-- What the part promises, in its box. Assumes nothing.
use mathlib.Core.Bool.{true}
use Rattle.sounder.proofs.Heard.{on-heard}
use Rattle.sounder.proofs.Valid.{faded-order}
use Rattle.sounder.proofs.Sounder.crossfade_sounding_on.Goals as goal

pub faded-requires : goal.faded-requires
faded-requires c =
    let g = c.crossfade_sounding_on-c.ensures in
    rw (← c.self.view_is) (g.valid, faded-order true c.self.invariant.present g (on-heard _ _ _ _ _))
