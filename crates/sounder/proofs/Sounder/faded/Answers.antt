-- The marks by the call, settled. Assumes nothing.
use Rattle.sounder.proofs.Valid.{made-settled}
use Rattle.sounder.proofs.Sounder.faded.Goals as goal

pub invariant_of-self : goal.invariant_of-self
invariant_of-self c =
    let h = rw (← c.self.view_is) at c.requires in
    (made-settled _ c.self.invariant h.0 h.1 c.fade_marks-marks.ensures c.settled-self-inside.ensures).valid

pub returns : goal.returns
returns c =
    let h = rw (← c.self.view_is) at c.requires in
    rw (← c.self.view_is) (made-settled _ c.self.invariant h.0 h.1 c.fade_marks-marks.ensures c.settled-self-inside.ensures)
