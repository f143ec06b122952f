-- `render_account::words::why` meets its contract: each arm is the definition's at its number.
use borrow.Author.Tests.{ne_eqb}
use Rattle.render_account.specs.Account.{why_text}
use native.Mathlib.Omega.{arith}
use Rattle.render_account.proofs.words.why.Goals as goal

pub returns-in-1 : goal.returns-in-1
unfolding why_text
returns-in-1 c = rw c.in-1.is c.say.ensures

pub returns-in-2 : goal.returns-in-2
unfolding why_text
returns-in-2 c = rw c.in-2.is c.say-in-2.ensures

pub returns-in-3 : goal.returns-in-3
unfolding why_text
returns-in-3 c = rw c.in-3.is c.say-in-3.ensures

pub returns-in-4 : goal.returns-in-4
unfolding why_text
returns-in-4 c = rw c.in-4.is c.say-in-4.ensures

pub returns-in-5 : goal.returns-in-5
unfolding why_text
returns-in-5 c = rw c.in-5.is c.say-in-5.ensures

pub returns-in-6 : goal.returns-in-6
unfolding why_text
returns-in-6 c = rw c.in-6.is c.say-in-6.ensures

pub returns-in-7 : goal.returns-in-7
unfolding why_text
returns-in-7 c = rw c.in-7.is c.say-in-7.ensures

pub returns-in-8 : goal.returns-in-8
unfolding why_text
returns-in-8 c = rw c.in-8.is c.say-in-8.ensures

pub returns-in-9 : goal.returns-in-9
unfolding why_text
returns-in-9 c = rw c.in-9.is c.say-in-9.ensures

pub returns-in-10 : goal.returns-in-10
unfolding why_text
returns-in-10 c = rw c.in-10.is c.say-in-10.ensures

pub returns-in-11 : goal.returns-in-11
unfolding why_text
returns-in-11 c = rw c.in-11.is c.say-in-11.ensures

pub returns-in_default : goal.returns-in_default
unfolding why_text
returns-in_default c =
    rw (ne_eqb c.args.number 1 (omega arith), ne_eqb c.args.number 2 (omega arith), ne_eqb c.args.number 3 (omega arith), ne_eqb c.args.number 4 (omega arith), ne_eqb c.args.number 5 (omega arith), ne_eqb c.args.number 6 (omega arith), ne_eqb c.args.number 7 (omega arith), ne_eqb c.args.number 8 (omega arith), ne_eqb c.args.number 9 (omega arith), ne_eqb c.args.number 10 (omega arith), ne_eqb c.args.number 11 (omega arith)) c.why_added.ensures
