-- `evacuation::Pattern::lengths` meets its contract: the first k cells are the first k phases' samples.
use Rattle.std.proofs.Common.{◌≡◌, ◌<◌, ◌++◌, take, drop}
use Rattle.evacuation.specs.Opened.{ValidRate}
use Rattle.evacuation.specs.Pattern.{lengths}
use Rattle.evacuation.proofs.Pattern.lengths.Given as goal

abbrev pub invariant-loop-k : goal.invariant-loop-k
invariant-loop-k l = (l.n-items ≡ take l.k (lengths l.self) ++ drop l.k l.initial.n-items) × (0 < l.k → ValidRate l.self)
