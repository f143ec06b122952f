-- `exports_replay::cut::newline` meets its contract: the chain is the definition's.
use Rattle.std.proofs.Common.{rules, tests, eqb}
use Rattle.std.proofs.lemmas.Iterator.{YieldsList-from_slice}
use Rattle.std.proofs.lemmas.Iterator.Search.{position_from_yields_List}
use Rattle.exports_replay.proofs.cut.newline.Goals as goal

pub returns : goal.returns
returns c = position_from_yields_List (λ b. eqb b 10) _ _ c.position.result c.position.ensures.ran (YieldsList-from_slice c.args.script.now cc) (λ x b q k. search (rules, tests))
