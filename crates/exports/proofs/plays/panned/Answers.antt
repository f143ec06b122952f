-- The pans that are left, from each turn on, give what all give. Assumes nothing.
use native.Mathlib.Omega.{arith}
use Rattle.exports_parts.proofs.Panning.{panning-turn, panning-end}
use Rattle.exports_play.specs.Plays.{calls}
use Rattle.exports.proofs.plays.panned.Goals as goal

pub loop-i-preserved : goal.loop-i-preserved
loop-i-preserved c = let l = c.loop-i in panning-turn calls _ _ l.i l.s l.invariant (omega arith) c.set_voice_pan.ensures.same

pub returns : goal.returns
returns c = let l = c.loop-i in panning-end calls _ _ l.i l.s l.invariant (omega arith)
