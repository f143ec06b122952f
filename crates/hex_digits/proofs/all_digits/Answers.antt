-- `hex_digits::all_digits` meets its contract: the chain is the definition's.
use Rattle.std.proofs.Common.{rules, tests}
use Rattle.std.proofs.lemmas.Iterator.{YieldsList-from_slice}
use Rattle.std.proofs.lemmas.Iterator.Search.{all_from_yields_List}
use Rattle.hex_digits.specs.Hex.{is_digit, all_digits}
use Rattle.hex_digits.proofs.all_digits.Goals as goal

pub returns : goal.returns
unfolding all_digits
returns c = all_from_yields_List is_digit _ _ c.all.result c.all.ensures.ran (YieldsList-from_slice c.args.l.now cc) (λ x b q k. search (rules, tests))
