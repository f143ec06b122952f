-- `render_account::words::taken` meets its contract: the test is the definition's.
use mathlib.Core.Path.{sym}
use Rattle.render_texts.proofs.Laws.{joined}
use Rattle.render_account.specs.Account.{from_text}
use Rattle.render_account.proofs.words.taken.Goals as goal

pub returns-then-is_present : goal.returns-then-is_present
unfolding from_text
returns-then-is_present c = rw (sym c.is_present.ensures, c.if-is_present.true) (joined c.say.ensures c.count.ensures)

pub returns : goal.returns
unfolding from_text
returns c = rw (sym c.is_present.ensures, c.if-is_present.false) (joined c.say-2.ensures c.count-2.ensures)
