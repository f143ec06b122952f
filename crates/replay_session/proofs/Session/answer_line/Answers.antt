-- `Session::answer_line` meets its contract: each record's answer is the definition's, laid from the front on.
use borrow.Author.Rules.{rules}
use mathlib.Core.Path.{refl, sym}
use Rattle.replay_session.specs.Sessions.{alone_answer}
use Rattle.replay_session.proofs.Done.{done}
use Rattle.replay_session.proofs.Session.answer_line.Goals as goal

pub returns-in-Open : goal.returns-in-Open
returns-in-Open c = rw (sym c.byte_at.ensures, sym c.asks_of.ensures, c.in-Open.is) (done (search rules) c.open.ensures)

pub returns-in-Lend : goal.returns-in-Lend
returns-in-Lend c = rw (sym c.byte_at.ensures, sym c.asks_of.ensures, c.in-Lend.is) (done (search rules) c.lend.ensures)

pub returns-in-Call : goal.returns-in-Call
returns-in-Call c = rw (sym c.byte_at.ensures, sym c.asks_of.ensures, c.in-Call.is) (done (search rules) c.call.ensures)

pub returns-in-Fill : goal.returns-in-Fill
returns-in-Fill c = rw (sym c.byte_at.ensures, sym c.asks_of.ensures, c.in-Fill.is) (done (search rules) c.fill.ensures)

pub returns-in-Alone : goal.returns-in-Alone
unfolding alone_answer
returns-in-Alone c =
    let a = c.answer.ensures in
    rw (sym c.byte_at.ensures, sym c.asks_of.ensures, c.in-Alone.is) (record { text = a.text; len = a.len; more = a.more; run = refl })
