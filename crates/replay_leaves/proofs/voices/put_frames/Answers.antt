-- `replay_leaves::voices::put_frames` meets its contract, in both cases of the test.
use native.Mathlib.Omega.{arith}
use borrow.Author.Tests.{eq-eqb, ne_eqb}
use Rattle.replay_leaves.proofs.voices.put_frames.Goals as goal

pub returns-then-stereo-eq1 : goal.returns-then-stereo-eq1
returns-then-stereo-eq1 c =
    let e = eq-eqb _ _ c.if-stereo-eq1.true in record {
      laid = rw e c.pairs.ensures.laid;
      next_bound = omega (arith, c.pairs.ensures.next_bound, c.requires.count_bound);
      made = rw e c.pairs.ensures.made;
    }

pub returns-else-stereo-eq1 : goal.returns-else-stereo-eq1
returns-else-stereo-eq1 c =
    let e = ne_eqb _ _ c.if-stereo-eq1.false in record {
      laid = rw e c.frames.ensures.laid;
      next_bound = omega (arith, c.frames.ensures.next_bound, c.requires.count_bound);
      made = rw e c.frames.ensures.made;
    }
