-- What the part promises, in its box. Assumes nothing.
use Rattle.sounder.proofs.Settled.{opened-silent}
use Rattle.sounder.proofs.Valid.{made-opened}
use Rattle.sounder.proofs.Sounder.open.Goals as goal

pub invariant_of-result : goal.invariant_of-result
invariant_of-result c = (made-opened c.open-c.ensures (opened-silent _ _ _) c.none.ensures c.empty.ensures).valid

pub returns : goal.returns
returns c = made-opened c.open-c.ensures (opened-silent _ _ _) c.none.ensures c.empty.ensures
