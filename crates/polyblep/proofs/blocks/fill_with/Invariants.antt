-- `polyblep::blocks::fill_with` meets its contract: what is left to write is what there was, and the phase stays in its range.
use Rattle.std.proofs.Common.{T}
use lib.ListN.{length}
use Rattle.tone.proofs.Loops.{Left}
use Rattle.polyblep.specs.Blocks.{moved, cut_of}
use Rattle.polyblep.specs.Ranges.{is_phase}
use Rattle.polyblep.proofs.blocks.fill_with.Given as goal

abbrev pub invariant-loop-cell : goal.invariant-loop-cell
invariant-loop-cell g l = Left (moved l.inc) (λ p. cut_of (g.W.Wave.value p l.inc)) (length l.initial.cell-items) l.phase l.initial.cell-items l.cell-index l.p l.cell-items × T (is_phase l.p)
