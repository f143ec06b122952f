-- What the part promises, in its box. Assumes nothing.
use Rattle.sounder.proofs.Valid.{made-panned}
use Rattle.sounder.proofs.Sounder.set_voice_pan.Goals as goal

pub invariant_of-self : goal.invariant_of-self
invariant_of-self c = (made-panned _ _ c.self.invariant c.set_voice_pan-self-inside.ensures).valid

pub returns : goal.returns
returns c = rw (← c.self.view_is) (made-panned _ _ c.self.invariant c.set_voice_pan-self-inside.ensures)
