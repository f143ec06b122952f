-- What is left to store is what there was. Assumes nothing.
use native.Mathlib.Omega.{arith}
use lib.IntN.{pos}
use lib.ListN.{get_or}
use mir.Syntax.{w8}
use mir.ValLaws.{to_z-of_z}
use Rattle.buffers.proofs.Putting.{sides-turn}
use Rattle.buffers.proofs.scales.put_sides.Goals as goal

pub loop-i-preserved : goal.loop-i-preserved
loop-i-preserved c =
    let a = c.args in
    let l = to_z-of_z w8 (get_or a.left.now c.loop-i.i (pos 0)) (record { sfits = omega arith }) in
    let r = to_z-of_z w8 (get_or a.right.now c.loop-i.i (pos 0)) (record { sfits = omega arith }) in
    sides-turn a.left.now a.right.now _ _ c.loop-i-test.true c.requires.0 l r c.loop-i.invariant
