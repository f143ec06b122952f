-- `render_account::tell` meets its contract: an opening is told whatever was open.
use mathlib.Core.Path.{sym}
use Rattle.std.specs.Prelude.{option_copied}
use Rattle.render_texts.proofs.Whole.{whole}
use Rattle.render_account.specs.Account.{line_text}
use Rattle.render_account.proofs.Laws.{line-within}
use Rattle.render_account.proofs.tell.Goals as goal

pub returns-in-16 : goal.returns-in-16
unfolding line_text
returns-in-16 c =
    let a = c.args in whole (line-within a.l.now a.answer.now (option_copied a.held) a.c) (rw (sym c.byte_at.ensures, c.in-16.is) c.opened.ensures)

pub returns-in-112 : goal.returns-in-112
unfolding line_text
returns-in-112 c =
    let a = c.args in whole (line-within a.l.now a.answer.now (option_copied a.held) a.c) (rw (sym c.byte_at.ensures, c.in-112.is) c.opened_present.ensures)
