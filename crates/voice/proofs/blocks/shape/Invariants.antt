-- `voice::blocks::shape` meets its contract: before turn k the first k cells are shaped.
use mathlib.Core.Path.{◌≡◌}
use Prim.Native.Nat.{◌≤◌}
use Rattle.voice.specs.Blocks.{shaped_first}
use Rattle.voice.proofs.blocks.shape.Given as goal

abbrev pub invariant-loop-k : goal.invariant-loop-k
invariant-loop-k l = (l.k ≤ l.n) × (l.samples ≡ shaped_first l.whole l.gain_q8 l.k l.initial.samples l.levels)
