-- `render_account::words::lasting` meets its contract: the test is the definition's.
use borrow.Author.Tests.{eq-eqb, ne_eqb}
use Rattle.render_texts.proofs.Laws.{joined}
use Rattle.render_account.specs.Account.{lasting_text}
use Rattle.render_account.proofs.words.lasting.Goals as goal

pub returns-then-ms-eq0 : goal.returns-then-ms-eq0
unfolding lasting_text
returns-then-ms-eq0 c = rw (eq-eqb _ _ c.if-ms-eq0.true) c.say.ensures

pub returns : goal.returns
unfolding lasting_text
returns c = rw (ne_eqb _ _ c.if-ms-eq0.false) (joined (joined c.say-2.ensures c.count.ensures) c.say-3.ensures)
