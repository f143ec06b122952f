-- `Session::answer` meets its contract: the tests are the definition's.
use borrow.Author.Rules.{rules}
use mathlib.Core.Path.{refl, sym, ◌∙◌}
use borrow.Author.Tests.{le-leb, lt-leb}
use Rattle.replay_session.specs.Sessions.{session_answer}
use Rattle.replay_session.proofs.Done.{done}
use Rattle.replay_session.proofs.Session.answer.Goals as goal

pub returns-then-line-gt8194 : goal.returns-then-line-gt8194
unfolding session_answer
returns-then-line-gt8194 c = rw (lt-leb _ _ c.if-line-gt8194.true) (done (search rules) (record { laid = c.bad.ensures; run = refl }))

pub returns-then-all_digits : goal.returns-then-all_digits
unfolding session_answer
returns-then-all_digits c = rw (le-leb _ _ c.if-line-gt8194.false, sym c.all_digits.ensures ∙ c.if-all_digits.true) c.answer_line.ensures

pub returns-else-all_digits : goal.returns-else-all_digits
unfolding session_answer
returns-else-all_digits c =
    rw (le-leb _ _ c.if-line-gt8194.false, sym c.all_digits.ensures ∙ c.if-all_digits.false) (done (search rules) (record { laid = c.bad-else-all_digits.ensures; run = refl }))
