-- The pans that are left, from each turn on, give what all give. Assumes nothing.
use Rattle.exports_parts.proofs.Panning.{Panning}
use Rattle.exports_engine.specs.Plays.{calls}
use Rattle.exports_engine.proofs.plays.panned.Given as goal

abbrev pub invariant-loop-i : goal.invariant-loop-i
invariant-loop-i l = Panning calls l.pans l.initial.e l.i l.e
