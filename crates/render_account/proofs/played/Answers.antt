-- `render_account::played` meets its contract: piece after piece; the test is the definition's.
use mathlib.Core.Path.{sym}
use borrow.Author.Tests.{eq-eqb, ne_eqb}
use Rattle.render_texts.proofs.Laws.{then, joined}
use Rattle.render_account.specs.Account.{play_text}
use Rattle.render_account.proofs.played.Goals as goal

pub returns-then-number-eq0 : goal.returns-then-number-eq0
unfolding play_text
returns-then-number-eq0 c = rw (sym c.wide_at.ensures, sym c.byte_at.ensures, sym c.byte_at-number.ensures, eq-eqb _ _ c.if-number-eq0.true, sym c.byte_at-then-number-eq0.ensures) (then (then (then (then (then c.at_time.ensures c.say.ensures) c.count-id.ensures) c.say-2.ensures) c.count-asked.ensures) (joined c.voiced.ensures c.say-then-number-eq0.ensures))

pub returns : goal.returns
unfolding play_text
returns c = rw (sym c.wide_at.ensures, sym c.byte_at.ensures, sym c.byte_at-number.ensures, ne_eqb _ _ c.if-number-eq0.false) (then (then (then (then (then c.at_time.ensures c.say.ensures) c.count-id.ensures) c.say-2.ensures) c.count-asked.ensures) c.ended.ensures)
