-- Each turn copies the next.
use native.Mathlib.Numerals.{add-one}
use native.Mathlib.Omega.{arith}
use Rattle.std.proofs.Common.{length-set}
use Rattle.std.proofs.lemmas.List.{take_more_set}
use Rattle.replay_session.proofs.Lending.{bytes-last}
use Rattle.replay_session.proofs.copy_bytes.Goals as goal

pub loop-i-preserved : goal.loop-i-preserved
loop-i-preserved c =
    let l = c.loop-i in
    (simp length-set l.invariant.0, rw (take_more_set l.lent l.i c.byte_at.result (omega (arith, l.invariant.0, c.loop-i-test.true)), add-one l.i, bytes-last c.args.l.now 1 l.i, c.byte_at.ensures, l.invariant.1))
