-- `replay_leaves::runs::ticks` meets its contract: what is left of the run, from each turn on, is the run.
use mathlib.Core.Path.{sym, ◌∙◌}
use native.Mathlib.Omega.{arith}
use Rattle.envelope.specs.Adsrs.{ticked}
use Rattle.replay_leaves.specs.Runs.{level_text}
use Rattle.hex_digits.proofs.Texts.{shown}
use Rattle.replay_leaves.proofs.Going.{going_start, going-turn, going_end, stepped-none}
use Rattle.replay_leaves.proofs.runs.ticks.Goals as goal

pub loop-init : goal.loop-init
loop-init c = (going_start ticked level_text _ _ _ _, omega arith)

pub loop-preserved : goal.loop-preserved
loop-preserved c =
    let v = c.loop.invariant in
    (going-turn ticked level_text c.loop-test.true c.tick-e.ensures v.0 (shown 2 c.level.ensures c.put-next.ensures.0), omega (arith, v.1, c.put-next.ensures.1))

pub returns : goal.returns
returns c =
    let l = c.loop in
    let z = c.loop-test.false in
    record {
      laid = going_end ticked level_text z l.invariant.0;
      next_bound = omega arith;
      made = sym (stepped-none ticked c.args.count l.counter l.e z) ∙ l.invariant.0.same;
    }
