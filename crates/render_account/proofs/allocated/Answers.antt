-- `render_account::allocated` meets its contract: the number stands where the definition reads it.
use mathlib.Core.Path.{sym}
use Rattle.render_account.proofs.allocated.Goals as goal

pub returns : goal.returns
returns c = rw (sym c.byte_at.ensures) c.asked.ensures
