-- Each turn reads on.
use Rattle.std.proofs.Common.{arith}
use Rattle.input_lines.proofs.Laws.{reads_on}
use Rattle.framelist.proofs.feed.Goals as goal

pub loop-i-smaller-then-f : goal.loop-i-smaller-then-f
loop-i-smaller-then-f g c = let on = reads_on _ _ _ c.loop-i.i c.loop-i-test.true c.fill-f.ensures in omega arith

pub loop-i-smaller : goal.loop-i-smaller
loop-i-smaller g c = let on = reads_on _ _ _ c.loop-i.i c.loop-i-test.true c.fill-f.ensures in omega arith
