-- `render_account::words::why_added` meets its contract: each arm is the definition's at its number.
use borrow.Author.Tests.{ne_eqb}
use Rattle.render_account.specs.Account.{added_text}
use native.Mathlib.Omega.{arith}
use Rattle.render_account.proofs.words.why_added.Goals as goal

pub returns-in-12 : goal.returns-in-12
unfolding added_text
returns-in-12 c = rw c.in-12.is c.say.ensures

pub returns-in-13 : goal.returns-in-13
unfolding added_text
returns-in-13 c = rw c.in-13.is c.say-in-13.ensures

pub returns-in-14 : goal.returns-in-14
unfolding added_text
returns-in-14 c = rw c.in-14.is c.say-in-14.ensures

pub returns-in-15 : goal.returns-in-15
unfolding added_text
returns-in-15 c = rw c.in-15.is c.say-in-15.ensures

pub returns-in-16 : goal.returns-in-16
unfolding added_text
returns-in-16 c = rw c.in-16.is c.say-in-16.ensures

pub returns-in-17 : goal.returns-in-17
unfolding added_text
returns-in-17 c = rw c.in-17.is c.say-in-17.ensures

pub returns-in-18 : goal.returns-in-18
unfolding added_text
returns-in-18 c = rw c.in-18.is c.say-in-18.ensures

pub returns-in-19 : goal.returns-in-19
unfolding added_text
returns-in-19 c = rw c.in-19.is c.say-in-19.ensures

pub returns-in-22 : goal.returns-in-22
unfolding added_text
returns-in-22 c = rw c.in-22.is c.say-in-22.ensures

pub returns-in_default : goal.returns-in_default
unfolding added_text
returns-in_default c =
    rw (ne_eqb c.args.number 12 (omega arith), ne_eqb c.args.number 13 (omega arith), ne_eqb c.args.number 14 (omega arith), ne_eqb c.args.number 15 (omega arith), ne_eqb c.args.number 16 (omega arith), ne_eqb c.args.number 17 (omega arith), ne_eqb c.args.number 18 (omega arith), ne_eqb c.args.number 19 (omega arith), ne_eqb c.args.number 22 (omega arith)) c.say-in_default.ensures
