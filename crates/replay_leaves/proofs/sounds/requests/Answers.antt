-- `replay_leaves::sounds::requests` meets its contract: what is left of the run, from each turn on, is the run.
use native.Mathlib.Omega.{arith}
use mathlib.Core.Path.{sym, ◌∙◌}
use Rattle.hex_digits.proofs.Texts.{shown}
use Rattle.replay_leaves.proofs.Going.{going_start, going-turn, going_end, stepped-none}
use Rattle.replay_leaves.specs.Sounds.{request, given_text}
use Rattle.replay_leaves.proofs.sounds.requests.Goals as goal

pub loop-init : goal.loop-init
loop-init c = (going_start request given_text _ _ _ _, c.requires, omega arith)

pub next_raw_sample-last-requires : goal.next_raw_sample-last-requires
next_raw_sample-last-requires c = c.loop.invariant.1

pub loop-preserved : goal.loop-preserved
loop-preserved c =
    let v = c.loop.invariant in
    (going-turn request given_text c.loop-test.true c.next_raw_sample-last.ensures.same v.0 (shown 4 c.given_number.ensures c.put-next.ensures.0), c.next_raw_sample-last.ensures.valid, omega (arith, v.2, c.put-next.ensures.1))

pub returns : goal.returns
returns c =
    let l = c.loop in
    let z = c.loop-test.false in
    record {
      laid = going_end request given_text z l.invariant.0;
      next_bound = omega arith;
      made = record { same = sym (stepped-none request c.args.count l.counter l.last z) ∙ l.invariant.0.same; valid = l.invariant.1 };
    }
