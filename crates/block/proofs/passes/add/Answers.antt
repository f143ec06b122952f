-- `block::passes::add` meets its contract: cell by cell.
use Prim.Native.Nat.{◌<◌}
use native.Mathlib.Omega.{arith}
use mathlib.Core.Path.{◌≡◌}
use mathlib.Core.List.{List, ◌++◌}
use lib.IntN.{ℤ, pos}
use lib.ListN.{length, get_or, drop, get_or-append}
use mir.Syntax.{w8}
use mir.Val.{SFits}
use mir.ValLaws.{to_z-of_z}
use Rattle.std.proofs.lemmas.List.{take-append-drop}
use Rattle.block.specs.Cells.{Scaled}
use Rattle.block.proofs.Cells.{added_none, added-old, added_front}
use Rattle.block.proofs.Fits.{Sums, sums, stored-sum}
use Rattle.block.proofs.passes.add.Goals.{After-scaled}
use Rattle.block.proofs.passes.add.Goals as goal

-- the cell that a turn adds to
module _ (c : After-scaled) where
  abbrev rest : List ℤ
  rest = drop c.args.n c.args.sums.now

  inside : c.loop-k.k < length c.loop-k.sum-items
  inside = omega (arith, c.loop-k-test.true, c.loop-k.auto.sum-items)

  cell : get_or (c.loop-k.sum-items ++ rest) c.loop-k.k (pos 0) ≡ get_or c.loop-k.sum-items c.loop-k.k (pos 0)
  cell = get_or-append c.loop-k.sum-items rest (pos 0) c.loop-k.k inside

  fit : Sums (get_or c.loop-k.sum-items c.loop-k.k (pos 0)) c.scaled.result
  fit = sums _ _ (rw cell at (added-old c.loop-k.invariant.1 c.requires.3)) c.scaled.ensures.small

pub loop-k-init : goal.loop-k-init
loop-k-init c = (omega arith, rw take-append-drop (added_none _ _ _))

pub loop-k-preserved : goal.loop-k-preserved
loop-k-preserved c =
    let a = c.args in
    let s = (goal.at.loop-k-preserved c).After-scaled in
    let x = get_or a.samples.now c.loop-k.k (pos 0) in
    let arg : SFits w8 x = record { sfits = c.scaled-arg-1.given } in
    let h : Scaled x a.gain c.scaled.result = rw (to_z-of_z w8 x arg) at c.scaled.ensures in (
      omega arith,
      added_front c.loop-k.sum-items (rest s) c.scaled.result _ c.loop-k.invariant.1 c.requires.2 (omega (arith, c.requires.1)) (inside s) (stored-sum (fit s)) h,
    )

pub returns : goal.returns
returns c =
    let e : c.loop-k.k ≡ c.args.n = omega arith in
    rw e at c.loop-k.invariant.1
