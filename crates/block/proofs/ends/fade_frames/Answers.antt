-- `block::ends::fade_frames` meets its contract.
use Prim.Native.Nat.{◌-◌, ◌≤◌}
use native.Mathlib.Nat.{div-le_self}
use native.Mathlib.Omega.{arith}
use mathlib.Core.Path.{refl, sym, ◌∙◌}
use Rattle.laws.proofs.Bools.{never}
use Rattle.block.proofs.Parts.{fade-frames}
use Rattle.block.proofs.ends.fade_frames.Goals.{Else-t-eq255}
use Rattle.block.proofs.ends.fade_frames.Goals as goal

below : (c : Else-t-eq255) → c.args.t ≤ 254
below c = omega (arith, c.if-t-eq255.false)

pub overflow_cast-most : goal.overflow_cast-most
overflow_cast-most c = omega (arith, div-le_self (254 - c.args.t) c.args.step)

pub returns-then-t-eq255 : goal.returns-then-t-eq255
returns-then-t-eq255 c =
    let q = c.if-active.true in
    let h = c.requires q in
    record { most = omega arith; goes = λ a z. absurd (omega arith); ends = λ z. (q, omega arith) }

pub returns-then-active : goal.returns-then-active
returns-then-active c =
    let q = c.if-active.true in
    fade-frames c.args.t c.args.step c.args.len _ _ q (below (goal.at.returns-then-active c).Else-t-eq255) (c.requires q) refl c.min.ensures

pub returns : goal.returns
returns c =
    record { most = omega arith; goes = λ a z. never (sym c.if-active.false ∙ a); ends = λ z. absurd (omega arith) }

pub overflow_sub-most : goal.overflow_sub-most
overflow_sub-most c = below c

pub nonzero_div-most : goal.nonzero_div-most
nonzero_div-most c = omega (arith, c.requires c.if-active.true)
