-- `replay::feed` is safe and ends.
use Rattle.std.proofs.Common.{arith}
use Rattle.input_lines.proofs.Laws.{reads_on}
use Rattle.replay.proofs.feed.Goals as goal

pub loop-i-smaller-in_ok-answered : goal.loop-i-smaller-in_ok-answered
loop-i-smaller-in_ok-answered g c = let on = reads_on _ _ _ c.loop-i.i c.loop-i-test.true c.fill-f.ensures in omega arith

pub loop-i-preserved-in_ok-answered : goal.loop-i-preserved-in_ok-answered
loop-i-preserved-in_ok-answered g c = let on = reads_on _ _ _ c.loop-i.i c.loop-i-test.true c.fill-f.ensures in on.1

pub loop-i-smaller : goal.loop-i-smaller
loop-i-smaller g c = let on = reads_on _ _ _ c.loop-i.i c.loop-i-test.true c.fill-f.ensures in omega arith

pub loop-i-preserved : goal.loop-i-preserved
loop-i-preserved g c = let on = reads_on _ _ _ c.loop-i.i c.loop-i-test.true c.fill-f.ensures in on.1
