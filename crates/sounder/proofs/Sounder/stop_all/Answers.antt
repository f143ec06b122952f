-- What the part promises, in its box. Assumes nothing.
use Rattle.sounder.proofs.Settled.{stopped-silent}
use Rattle.sounder.proofs.Valid.{made-stopped}
use Rattle.sounder.proofs.Sounder.stop_all.Goals as goal

pub invariant_of-self : goal.invariant_of-self
invariant_of-self c =
    (made-stopped _ c.self.invariant c.stop_all-mixer.ensures (stopped-silent _ c.self.invariant.present.inside) c.none-marks.ensures).valid

pub returns : goal.returns
returns c =
    rw (← c.self.view_is)
    (made-stopped _ c.self.invariant c.stop_all-mixer.ensures (stopped-silent _ c.self.invariant.present.inside) c.none-marks.ensures)
