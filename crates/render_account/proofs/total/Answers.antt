-- `render_account::total` meets its contract: piece after piece.
use Rattle.render_texts.proofs.Laws.{then}
use Rattle.render_texts.proofs.Whole.{whole}
use Rattle.render_account.specs.Account.{total_text}
use Rattle.render_account.proofs.Laws.{total-within}
use Rattle.render_account.proofs.total.Goals as goal

pub returns : goal.returns
unfolding total_text
returns c = whole (total-within c.args.c) (then (then (then (then (then c.so_long.ensures c.say.ensures) c.count-rate.ensures) c.say-2.ensures) c.count-bytes.ensures) c.say-3.ensures)
