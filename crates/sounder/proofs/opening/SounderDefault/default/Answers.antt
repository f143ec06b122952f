-- What opening two voices promises. Assumes nothing.
use Rattle.sounder.proofs.Valid.{made-default}
use Rattle.sounder.proofs.opening.SounderDefault.default.Goals as goal

pub returns : goal.returns
returns c = made-default c.default.ensures c.new-sounder.ensures
