-- `render_account::waits::tell_waiting` meets its contract: each arm is the definition's at its code.
use mathlib.Core.Path.{sym}
use Rattle.render_texts.proofs.Whole.{whole}
use Rattle.render_account.proofs.Laws.{wait-within}
use Rattle.render_account.specs.Waits.{wait_text}
use Rattle.render_account.proofs.waits.tell_waiting.Goals as goal

pub returns-in-116 : goal.returns-in-116
unfolding wait_text
returns-in-116 c = whole (wait-within c.args.l.now c.args.answer.now c.args.c) (rw (sym c.byte_at.ensures, c.in-116.is) c.left.ensures)

pub returns-in-117 : goal.returns-in-117
unfolding wait_text
returns-in-117 c = whole (wait-within c.args.l.now c.args.answer.now c.args.c) (rw (sym c.byte_at.ensures, c.in-117.is) c.withdrawn.ensures)
