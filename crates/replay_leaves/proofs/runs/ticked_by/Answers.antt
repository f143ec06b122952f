-- `replay_leaves::runs::ticked_by` meets its contract: what the turns left make of the envelope is what all make.
use mathlib.Core.Path.{sym, ◌∙◌}
use Rattle.envelope.specs.Adsrs.{ticked}
use Rattle.replay_leaves.proofs.Going.{stepped-one, stepped-none}
use Rattle.replay_leaves.proofs.runs.ticked_by.Goals as goal

pub loop-preserved : goal.loop-preserved
loop-preserved c =
    let l = c.loop in rw (c.tick-e.ensures, ← stepped-one ticked c.args.count l.counter l.e c.loop-test.true) l.invariant

pub returns : goal.returns
returns c = let l = c.loop in sym (stepped-none ticked c.args.count l.counter l.e c.loop-test.false) ∙ l.invariant
