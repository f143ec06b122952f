-- `block::over_end` meets its contract: the part before the fade's end, and the part from it on.
use native.Mathlib.Omega.{arith}
use mathlib.Core.Path.{◌≡◌, sym, ◌∙◌}
use mathlib.Core.Bool.{true, false}
use Rattle.laws.proofs.Bools.{never}
use Rattle.block.proofs.Frames.{ended-quiet}
use Rattle.block.proofs.Parts.{slow-part, next-ends, mono-part, part-stretch, stretch-two}
use Rattle.block.proofs.over_end.Goals as goal

pub panned-a-requires : goal.panned-a-requires
panned-a-requires c =
    let p = c.requires in
    (p.0, omega (arith, p.1, p.5), p.2, p.3, slow-part c.args.p.mixer _ _ p.0 p.4)

pub ended-b-requires : goal.ended-b-requires
ended-b-requires c =
    let p = c.requires in
    let e = c.panned-a.ensures.mixer in
    (e.valid, rw e.same (next-ends c.args.p.mixer _ _ p.0 p.4 true p.5).active)

pub panned-mixer-requires : goal.panned-mixer-requires
panned-mixer-requires c =
    let d = c.ended-b.ensures in
    let p = c.requires in
    let e = c.panned-a.ensures in
    let quiet : c.ended-b.result.crossfade_active ≡ false = rw d.same (ended-quiet _ c.panned-a.result) in
    (d.valid, omega (arith, p.1, p.5), e.left.size ∙ p.2, e.right.size ∙ p.3, λ a z. never (sym quiet ∙ a))

pub returns-then-sides : goal.returns-then-sides
returns-then-sides c =
    let d = c.ended-b.ensures in
    let m = c.args.p.mixer in
    let p = c.requires in
    let quiet : c.ended-b.result.crossfade_active ≡ false = rw d.same (ended-quiet _ c.panned-a.result) in
    rw c.if-sides.true
    (stretch-two (rw c.panned-a.ensures.mixer.same (next-ends m _ _ p.0 p.4 true p.5)) (rw (d.same, c.marks_ended-marks.ensures)) p.5
    (part-stretch c.args.p.marks m _ (slow-part m _ _ p.0 p.4) c.panned-a.ensures)
    (part-stretch _ _ _ (λ a z. never (sym quiet ∙ a)) c.panned-mixer.ensures))

pub fading-a-requires : goal.fading-a-requires
fading-a-requires c =
    let p = c.requires in
    (p.0, (p.4.ends p.5).0, omega (arith, p.1, p.5), p.2, slow-part c.args.p.mixer _ _ p.0 p.4)

pub ended-b-requires-2 : goal.ended-b-requires-2
ended-b-requires-2 c =
    let p = c.requires in
    let e = c.fading-a.ensures.mixer in
    (e.valid, rw e.same (next-ends c.args.p.mixer _ _ p.0 p.4 false p.5).active)

pub plain-mixer-requires : goal.plain-mixer-requires
plain-mixer-requires c =
    let d = c.ended-b-2.ensures in
    let p = c.requires in
    (d.valid, rw d.same (ended-quiet _ c.fading-a.result), omega (arith, p.1, p.5), c.fading-a.ensures.cells.size ∙ p.2)

pub returns : goal.returns
returns c =
    let d = c.ended-b-2.ensures in
    let m = c.args.p.mixer in
    let p = c.requires in
    let quiet : c.ended-b-2.result.crossfade_active ≡ false = rw d.same (ended-quiet _ c.fading-a.result) in
    rw c.if-sides.false
    (stretch-two (rw c.fading-a.ensures.mixer.same (next-ends m _ _ p.0 p.4 false p.5)) (rw (d.same, c.marks_ended-marks.ensures)) p.5
    (part-stretch c.args.p.marks m _ (slow-part m _ _ p.0 p.4) (mono-part _ c.fading-a.ensures))
    (part-stretch _ _ _ (λ a z. never (sym quiet ∙ a)) (mono-part _ c.plain-mixer.ensures)))
