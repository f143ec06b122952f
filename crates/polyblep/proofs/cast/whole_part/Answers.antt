-- `polyblep::cast::whole_part` meets its contract: what the fields of the bits of a number from 1 up and below 128 tell.
use lib.Ieee.{round}
use Rattle.polyblep.proofs.Cut.{Whole, whole}
use Rattle.polyblep.proofs.cast.whole_part.Goals.{Start}
use Rattle.polyblep.proofs.cast.whole_part.Goals as goal

read : (c : Start) → Whole c.args.x
unfolding round
read c = whole c.args.x c.requires.least c.requires.most

pub float_to_bits-bits : goal.float_to_bits-bits
float_to_bits-bits c = (read c).number

pub overflow_sub-result : goal.overflow_sub-result
overflow_sub-result c = (read c).room

pub overflow_shr-result : goal.overflow_shr-result
overflow_shr-result c = (read c).shift

pub returns : goal.returns
returns c = (read c).is
