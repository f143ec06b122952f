-- `tone::blocks::fill_with` meets its contract: what is left to write is what there was.
use Rattle.fixed.specs.Fixed.{index_of}
use Rattle.tone.specs.Blocks.{turned}
use lib.ListN.{length}
use Rattle.tone.proofs.Loops.{Left}
use Rattle.tone.proofs.blocks.fill_with.Given as goal

abbrev pub invariant-loop-cell : goal.invariant-loop-cell
invariant-loop-cell g l = Left (turned l.inc) (λ p. g.W.Wave.value (index_of p)) (length l.initial.cell-items) l.phase l.initial.cell-items l.cell-index l.p l.cell-items
