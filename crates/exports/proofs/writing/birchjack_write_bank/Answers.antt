-- `exports::writing::birchjack_write_bank` meets its contract: each variant is the definition's.
use Rattle.exports.proofs.Banked.{banked}
use Rattle.exports.proofs.writing.birchjack_write_bank.Goals as goal

pub returns : goal.returns
returns c = banked (rw c.entries_from-given.ensures at c.write_bank-written.ensures) c.give.ensures
