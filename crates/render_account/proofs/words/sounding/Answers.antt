-- `render_account::words::sounding` meets its contract: piece after piece; the test is the definition's.
use mathlib.Core.Path.{sym}
use borrow.Author.Tests.{eq-eqb, ne_eqb}
use Rattle.render_texts.proofs.Laws.{joined}
use Rattle.render_account.specs.Account.{sounding_text}
use Rattle.render_account.proofs.words.sounding.Goals as goal

pub returns-then-voice_count-eq0 : goal.returns-then-voice_count-eq0
unfolding sounding_text
returns-then-voice_count-eq0 c = rw (sym c.long_at.ensures, sym c.wide_at.ensures, sym c.voice_count.ensures, eq-eqb _ _ c.if-voice_count-eq0.true) (joined (joined (joined c.count.ensures c.say-hz.ensures) c.lasting-ms.ensures) c.say.ensures)

pub returns : goal.returns
unfolding sounding_text
returns c = rw (sym c.long_at.ensures, sym c.wide_at.ensures, sym c.voice_count.ensures, ne_eqb _ _ c.if-voice_count-eq0.false) (joined (joined (joined c.count.ensures c.say-hz.ensures) c.lasting-ms.ensures) c.say-2.ensures)
