-- What the part promises, in its box. Assumes nothing.
use Rattle.sounder.proofs.Valid.{made-gain}
use Rattle.sounder.proofs.Sounder.set_master_gain_q8.Goals as goal

pub invariant_of-self : goal.invariant_of-self
invariant_of-self c = (made-gain _ c.self.invariant c.set_master_gain_q8-self-inside.ensures).valid

pub returns : goal.returns
returns c = rw (← c.self.view_is) (made-gain _ c.self.invariant c.set_master_gain_q8-self-inside.ensures)
