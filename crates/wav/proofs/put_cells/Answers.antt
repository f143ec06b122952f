-- `wav::put_cells` meets its contract: what is left to write is what there was.
use mathlib.Core.Path.{◌≡◌, sym, ap, ◌∙◌}
use Prim.Native.Nat.{◌*◌, ◌/◌, ◌<◌}
use native.Mathlib.Omega.{arith}
use lib.IntN.{ℤ, pos}
use lib.ListN.{length, get_or, take, length-take}
use lib.Seq.{get_or-take}
use mir.Syntax.{w16}
use mir.Val.{of_z, SFits}
use mir.ValLaws.{to_z-of_z}
use borrow.Author.Rules.{rules}
use Rattle.std.specs.Int.{to_le_bytes}
use Rattle.wav.specs.Wav.{little, fitting}
use Rattle.wav.proofs.Bytes.{low-two, cells-turn, cells-end, cells-laid}
use Rattle.wav.proofs.put_cells.Goals.{After-min-n}
use Rattle.wav.proofs.put_cells.Goals as goal

-- how many cells fit
count : (c : After-min-n) → let a = c.args in length (fitting a.cells.now a.out.now) ≡ c.min-n.result
count c = let a = c.args in omega (arith, length-take (length a.out.now / 2) a.cells.now, c.min-n.ensures)

pub loop-i-preserved : goal.loop-i-preserved
loop-i-preserved c =
    let a = c.args in
    let f = fitting a.cells.now a.out.now in
    let i = c.loop-i.i in
    let n = count (goal.at.loop-i-preserved c).After-min-n in
    let m = c.min-n.result in
    let z = get_or (take m a.cells.now) i (pos 0) in
    let z-fits : SFits w16 z = search rules in
    let same : z ≡ get_or f i (pos 0) = get_or-take m a.cells.now i (pos 0) (omega (arith, length-take m a.cells.now)) ∙ sym (get_or-take (length a.out.now / 2) a.cells.now i (pos 0) (omega (arith, length-take m a.cells.now, c.min-n.ensures))) in
    let e : c.to_le_bytes.result ≡ little 2 (of_z w16 (get_or f i (pos 0))) =
    c.to_le_bytes.ensures ∙ ap (λ (x : ℤ). to_le_bytes w16 (of_z w16 x)) (to_z-of_z w16 z z-fits ∙ same) ∙ low-two (of_z w16 (get_or f i (pos 0))) in
    let within : i < length f = omega (arith, length-take m a.cells.now, n) in
    rw (c.put.ensures, e) (cells-turn c.loop-i.out f i (pos 0) within ∙ c.loop-i.invariant)

pub returns : goal.returns
returns c =
    let a = c.args in
    let f = fitting a.cells.now a.out.now in
    let n = count (goal.at.returns c).After-min-n in
    let k = length-take c.min-n.result a.cells.now in
    cells-laid a.out.now f (omega (arith, c.min-n.ensures)) (rw n) (sym (cells-end c.loop-i.out f (2 * c.loop-i.i) c.loop-i.i (omega arith)) ∙ c.loop-i.invariant)
