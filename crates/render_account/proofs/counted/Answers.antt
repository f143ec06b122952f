-- `render_account::counted` meets its contract: piece after piece.
use mathlib.Core.Path.{sym}
use Rattle.render_texts.proofs.Laws.{then}
use Rattle.render_account.specs.Account.{count_text}
use Rattle.render_account.proofs.counted.Goals as goal

pub returns : goal.returns
unfolding count_text
returns c = rw (sym c.byte_at.ensures) (then (then (then (then (then (then c.at_time.ensures c.say.ensures) c.things-all.ensures) c.say-2.ensures) c.count-rate.ensures) c.say-3.ensures) c.ended.ensures)
