-- `render_account::words::voiced` meets its contract: a voice that was audible was another's.
use mathlib.Core.Path.{sym}
use Rattle.render_texts.proofs.Laws.{joined, nothing}
use Rattle.render_account.specs.Account.{voice_text}
use Rattle.render_account.proofs.words.voiced.Goals as goal

pub returns-then-is_audible : goal.returns-then-is_audible
unfolding voice_text
returns-then-is_audible c = rw (sym c.voice.ensures, c.in-Some.is, sym c.is_audible.ensures, c.if-is_audible.true) (joined (joined c.say.ensures c.count-got.ensures) c.taken.ensures)

pub returns-in-None : goal.returns-in-None
unfolding voice_text
returns-in-None c = rw (sym c.voice.ensures, c.in-None.is) (nothing (joined c.say.ensures c.count-got.ensures))

pub returns-else-is_audible : goal.returns-else-is_audible
unfolding voice_text
returns-else-is_audible c = rw (sym c.voice.ensures, c.in-Some.is, sym c.is_audible.ensures, c.if-is_audible.false) (nothing (joined c.say.ensures c.count-got.ensures))
