-- `render::runs::feed` is safe and ends.
use Rattle.std.proofs.Common.{arith}
use Rattle.input_lines.proofs.Laws.{reads_on}
use Rattle.render.proofs.runs.feed.Goals as goal

pub loop-i-smaller-in_ok-line_done : goal.loop-i-smaller-in_ok-line_done
loop-i-smaller-in_ok-line_done g c = let on = reads_on _ _ _ c.loop-i.i c.loop-i-test.true c.fill-f.ensures in omega arith

pub loop-i-preserved-in_ok-line_done : goal.loop-i-preserved-in_ok-line_done
loop-i-preserved-in_ok-line_done g c = let on = reads_on _ _ _ c.loop-i.i c.loop-i-test.true c.fill-f.ensures in on.1

pub loop-i-smaller : goal.loop-i-smaller
loop-i-smaller g c = let on = reads_on _ _ _ c.loop-i.i c.loop-i-test.true c.fill-f.ensures in omega arith

pub loop-i-preserved : goal.loop-i-preserved
loop-i-preserved g c = let on = reads_on _ _ _ c.loop-i.i c.loop-i-test.true c.fill-f.ensures in on.1
