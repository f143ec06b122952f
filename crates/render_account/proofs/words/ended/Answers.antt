-- `render_account::words::ended` meets its contract: the test is the definition's.
use borrow.Author.Tests.{eq-eqb, ne_eqb}
use Rattle.render_texts.proofs.Laws.{joined}
use Rattle.render_account.specs.Account.{end_text}
use Rattle.render_account.proofs.words.ended.Goals as goal

pub returns-then-number-eq0 : goal.returns-then-number-eq0
unfolding end_text
returns-then-number-eq0 c = rw (eq-eqb _ _ c.if-number-eq0.true) c.say.ensures

pub returns : goal.returns
unfolding end_text
returns c = rw (ne_eqb _ _ c.if-number-eq0.false) (joined (joined (joined (joined c.say-2.ensures c.count-counted.ensures) c.say-3.ensures) c.why.ensures) c.say-4.ensures)
