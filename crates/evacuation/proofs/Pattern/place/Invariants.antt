-- `evacuation::Pattern::place` meets its contract: what is left of the place in the cycle, with the phases passed, is the whole.
use Rattle.std.proofs.Common.{◌≡◌, ◌+◌, ◌%◌, take}
use Rattle.evacuation.specs.Pattern.{lengths, total, cycle_of}
use Rattle.evacuation.proofs.Pattern.place.Given as goal

abbrev pub invariant-loop-k : goal.invariant-loop-k
invariant-loop-k l = l.at + total (take l.k (lengths l.fn.self)) ≡ l.sample % cycle_of l.fn.self
