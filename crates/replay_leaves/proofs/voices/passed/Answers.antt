-- `replay_leaves::voices::passed` meets its contract: what the turns left make of the voice is what all make.
use mathlib.Core.Path.{sym, ◌∙◌}
use Rattle.replay_leaves.proofs.Going.{stepped-none, stepped-one}
use Rattle.replay_leaves.specs.Voices.{passed_frame}
use Rattle.replay_leaves.proofs.voices.passed.Goals as goal

pub loop-preserved : goal.loop-preserved
loop-preserved c =
    let l = c.loop in
    (rw (c.next_sample.ensures.same, c.tick_envelope.ensures.same, ← stepped-one passed_frame c.args.count l.counter l.voice c.loop-test.true) l.invariant.0, c.next_sample.ensures.valid)

pub returns : goal.returns
returns c =
    let l = c.loop in
    record { same = sym (stepped-none passed_frame c.args.count l.counter l.voice c.loop-test.false) ∙ l.invariant.0; valid = l.invariant.1 }
