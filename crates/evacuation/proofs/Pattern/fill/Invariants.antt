-- `evacuation::Pattern::fill` meets its contract: a place after each cell, from the first sample's on, whose bytes are stored.
use Rattle.laws.proofs.Stores.{Wrote}
use Rattle.evacuation.specs.Places.{next_place}
use Rattle.evacuation.proofs.Cycles.{place_byte}
use Rattle.evacuation.proofs.Pattern.fill.Given as goal

abbrev pub invariant-loop-cell : goal.invariant-loop-cell
invariant-loop-cell l = Wrote (next_place l.lengths) place_byte l.initial.place l.initial.cell-items 0 l.cell-index l.place l.cell-items
