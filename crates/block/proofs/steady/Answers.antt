-- `block::steady` meets its contract: by the kind of frame, and by whether a fade is going on.
use native.Mathlib.Omega.{arith}
use Rattle.block.proofs.Parts.{mono-part}
use Rattle.block.proofs.steady.Goals as goal

pub panned-requires : goal.panned-requires
panned-requires c = let p = c.requires in (p.0, omega (arith, p.1), p.2, p.3, p.4)

pub fading-requires : goal.fading-requires
fading-requires c =
    let p = c.requires in
    (p.0, c.if-m.true, p.1, p.2, p.4)

pub plain-requires : goal.plain-requires
plain-requires c =
    let p = c.requires in
    (p.0, c.if-m.false, omega (arith, p.1), p.2)

pub returns-then-sides : goal.returns-then-sides
returns-then-sides c = rw c.if-sides.true c.panned.ensures

pub returns-then-m : goal.returns-then-m
returns-then-m c = rw c.if-sides.false (mono-part _ c.fading.ensures)

pub returns : goal.returns
returns c = rw c.if-sides.false (mono-part _ c.plain.ensures)
