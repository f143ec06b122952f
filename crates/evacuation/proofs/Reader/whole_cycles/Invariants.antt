-- `evacuation::Reader::whole_cycles` meets its contract: what the pass over the rest says is the answer.
use Rattle.evacuation.proofs.Passes.{Hears}
use Rattle.evacuation.proofs.Reader.whole_cycles.Given as goal

abbrev pub invariant-loop-b : goal.invariant-loop-b
invariant-loop-b l = Hears l.rate l.recording l.phase l.heard l.b-index
