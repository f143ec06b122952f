-- `replay_leaves::voices::pairs` meets its contract: what is left of the run, from each turn on, is the run.
use native.Mathlib.Omega.{arith}
use mathlib.Core.Path.{refl, sym, ap, ◌∙◌}
use Rattle.replay_leaves.proofs.Going.{going_start, going-turn, going_end, stepped-none}
use Rattle.voice.specs.Voices.{stereo_step}
use Rattle.replay_leaves.specs.Voices.{stereo_frame, pair_text}
use Rattle.replay_leaves.proofs.voices.pairs.Goals as goal

pub loop-init : goal.loop-init
loop-init c = (going_start stereo_frame pair_text _ _ _ _, c.requires, omega arith)

pub tick_envelope-requires : goal.tick_envelope-requires
tick_envelope-requires c = c.loop.invariant.1

pub next_stereo_sample-last-requires : goal.next_stereo_sample-last-requires
next_stereo_sample-last-requires c = c.tick_envelope.ensures.valid

pub loop-preserved : goal.loop-preserved
loop-preserved c =
    let v = c.loop.invariant in
    let e = c.next_stereo_sample-last.ensures.same ∙ ap stereo_step c.tick_envelope.ensures.same in
    (going-turn stereo_frame pair_text c.loop-test.true e v.0 c.put_pair-next.ensures.0, c.next_stereo_sample-last.ensures.valid, omega (arith, v.2, c.put_pair-next.ensures.1))

pub returns : goal.returns
returns c =
    let l = c.loop in
    let z = c.loop-test.false in
    let e = sym (stepped-none stereo_frame c.args.count l.counter l.last z) ∙ l.invariant.0.same in
    record {
      laid = going_end stereo_frame pair_text z l.invariant.0;
      next_bound = omega arith;
      made = rw (← e) (record { same = refl; valid = l.invariant.1 });
    }
