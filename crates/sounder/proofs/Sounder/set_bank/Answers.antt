-- What the part promises, in its box. Assumes nothing.
use Rattle.sounder.proofs.Valid.{made-banked}
use Rattle.sounder.proofs.Sounder.set_bank.Goals as goal

pub invariant_of-self : goal.invariant_of-self
invariant_of-self c = (made-banked _ _ _ c.self.invariant c.set_bank-c.ensures c.bank_marks-marks.ensures).valid

pub returns : goal.returns
returns c = rw (← c.self.view_is) (made-banked _ _ _ c.self.invariant c.set_bank-c.ensures c.bank_marks-marks.ensures)
