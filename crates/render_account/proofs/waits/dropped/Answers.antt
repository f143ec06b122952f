-- `render_account::waits::dropped` meets its contract: the test is the definition's, then piece after piece.
use mathlib.Core.Path.{sym}
use borrow.Author.Tests.{eq-eqb, ne_eqb}
use Rattle.render_texts.proofs.Laws.{joined}
use Rattle.render_account.specs.Waits.{dropped_text}
use Rattle.render_account.proofs.waits.dropped.Goals as goal

pub returns-then-kept_key : goal.returns-then-kept_key
unfolding dropped_text
returns-then-kept_key c = rw (sym c.kept_key.ensures, sym c.kept_key-2.ensures, eq-eqb _ _ c.if-kept_key.true) (c.say.ensures)

pub returns : goal.returns
unfolding dropped_text
returns c = rw (sym c.kept_key.ensures, sym c.kept_key-2.ensures, ne_eqb _ _ c.if-kept_key.false, sym c.kept_label-label.ensures, sym c.kept_number-number.ensures) (joined (joined (joined (joined (joined (joined c.say-2.ensures c.count-named.ensures) c.say-3.ensures) c.count-numbered.ensures) c.say-4.ensures) c.why.ensures) c.say-5.ensures)
