-- `bank_writer::checks::some_outside` meets its contract: what `any` answers of the definition's test.
use borrow.Author.Rules.{rules}
use borrow.Author.Tests.{tests}
use mathlib.Core.Path.{◌≡◌}
use mathlib.Core.Bool.{true, false}
use lib.ListN.{take}
use Rattle.std.proofs.lemmas.Iterator.{cases_from_any, YieldsList-from_slice}
use Rattle.bank_writer.specs.Refusals.{outside}
use Rattle.bank_writer.proofs.Given.{some-cases}
use Rattle.bank_writer.proofs.checks.some_outside.Goals as goal

pub returns : goal.returns
returns c =
    let l = take c.args.count c.args.entries in
    some-cases outside c.any.result l
    (cases_from_any _ _ _ (λ e. outside e ≡ true) (λ e. outside e ≡ false) c.any.ensures.ran (YieldsList-from_slice l cc) (λ x q k. search (rules, tests)) (λ x q k. search (rules, tests)))
