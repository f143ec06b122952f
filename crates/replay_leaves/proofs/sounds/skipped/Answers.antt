-- `replay_leaves::sounds::skipped` meets its contract: what the turns left make of the source is what all make.
use mathlib.Core.Path.{sym, ◌∙◌}
use Rattle.replay_leaves.proofs.Going.{stepped-none, stepped-one}
use Rattle.replay_leaves.specs.Sounds.{passed_over}
use Rattle.replay_leaves.proofs.sounds.skipped.Goals as goal

pub loop-preserved : goal.loop-preserved
loop-preserved c =
    let l = c.loop in
    (rw (c.next_raw_sample-source.ensures.same, ← stepped-one passed_over c.args.count l.counter l.source c.loop-test.true) l.invariant.0, c.next_raw_sample-source.ensures.valid)

pub returns : goal.returns
returns c =
    let l = c.loop in
    record { same = sym (stepped-none passed_over c.args.count l.counter l.source c.loop-test.false) ∙ l.invariant.0; valid = l.invariant.1 }
