-- What is left to store is what there was. Assumes nothing.
use mathlib.Core.Path.{◌≡◌}
use lib.ListN.{drop}
use Rattle.output.specs.Duty.{ValidMapper}
use Rattle.buffers.proofs.Putting.{Putting}
use Rattle.buffers.specs.Blocks.{mapper_over, levels_over}
use Rattle.buffers.proofs.scales.put_levels.Given as goal

abbrev pub invariant-loop-i : goal.invariant-loop-i
invariant-loop-i l =
    ValidMapper l.state × (mapper_over l.level l.period l.state (drop l.i l.samples) ≡ mapper_over l.level l.period l.initial.state l.samples)
    × Putting (levels_over l.level l.period l.initial.state l.samples) (levels_over l.level l.period l.state (drop l.i l.samples)) l.i l.cells
