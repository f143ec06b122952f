-- `evacuation::Pattern::cycle_samples` meets its contract: the sum so far is the first k phases', each of one sample at least.
use Rattle.std.proofs.Common.{◌≡◌, ◌*◌, ◌≤◌, take}
use Rattle.evacuation.specs.Pattern.{lengths, total}
use Rattle.evacuation.proofs.Pattern.cycle_samples.Given as goal

abbrev pub invariant-loop-n : goal.invariant-loop-n
invariant-loop-n l = (l.samples ≡ total (take l.n-index (lengths l.fn.self))) × (l.samples ≤ 98305 * l.n-index) × (l.n-index ≤ l.samples)
