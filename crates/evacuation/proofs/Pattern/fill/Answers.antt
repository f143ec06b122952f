-- `evacuation::Pattern::fill` meets its contract: a place after each cell, from the first sample's on, whose bytes are stored.
use Rattle.std.proofs.Common.{arith, ◌≡◌, ◌∙◌, ◌+◌, length}
use Rattle.laws.proofs.Stores.{wrote_none, front-one}
use Rattle.evacuation.specs.Places.{Stands}
use Rattle.evacuation.proofs.Cycles.{stands_after, run-stored}
use Rattle.evacuation.proofs.Pattern.fill.Goals.{At-loop-cell}
use Rattle.evacuation.proofs.Pattern.fill.Goals as goal

-- the place is that of the sample to be stored
stands : (l : At-loop-cell) → Stands l.args.self (l.args.first + l.loop-cell.cell-index) l.loop-cell.place
stands l =
    rw (l.loop-cell.invariant.state, l.lengths-lengths.ensures.samples)
    (stands_after l.lengths-lengths.ensures.rate l.loop-cell.cell-index l.place-place.ensures)

pub loop-cell-init : goal.loop-cell-init
loop-cell-init c = wrote_none _ _

pub phase_byte-requires : goal.phase_byte-requires
phase_byte-requires c = (stands (goal.at.phase_byte-requires c).At-loop-cell).phase

pub next-place-requires : goal.next-place-requires
next-place-requires c = let s = stands (goal.at.next-place-requires c).At-loop-cell in (s.phase, s.some)

pub loop-cell-preserved : goal.loop-cell-preserved
loop-cell-preserved c = rw (c.next-place.ensures, c.phase_byte.ensures) (front-one _ _ c.loop-cell.invariant)

pub returns : goal.returns
returns c =
    let e : c.loop-cell.cell-index ≡ length c.args.out.now = omega arith in
    let l = c.lengths-lengths.ensures in
    c.loop-cell.invariant.stored ∙ rw (e, l.samples) (run-stored l.rate c.place-place.ensures c.args.out.now)
