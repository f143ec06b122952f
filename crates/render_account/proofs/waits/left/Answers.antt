-- `render_account::waits::left` meets its contract: piece after piece.
use mathlib.Core.Path.{sym}
use Rattle.render_texts.proofs.Laws.{then}
use Rattle.render_account.specs.Waits.{leave_text}
use Rattle.render_account.proofs.waits.left.Goals as goal

pub returns : goal.returns
unfolding leave_text
returns c = rw (sym c.wide_at.ensures, sym c.byte_at.ensures, sym c.wide_at-2.ensures, sym c.byte_at-2.ensures) (then (then (then (then (then (then (then c.at_time.ensures c.say.ensures) c.count-id.ensures) c.say-2.ensures) c.count-asked.ensures) c.say-3.ensures) c.count-labelled.ensures) c.ended.ensures)
