-- The least of those passed and of those left is the least of all. Assumes nothing.
use Prim.Native.Nat.{◌≤◌, min}
use mathlib.Core.Path.{◌≡◌}
use lib.ListN.{drop}
use Rattle.tone.specs.Duration.{forever}
use Rattle.spans.specs.Spans.{all_last, steady_frames}
use Rattle.spans.proofs.steady_frames.Given as goal

abbrev pub invariant-loop-v : goal.invariant-loop-v
invariant-loop-v l = (l.least ≤ forever) × (min l.least (all_last (drop l.v-index l.v-items)) ≡ steady_frames l.fn.m)
