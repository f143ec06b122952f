-- `voice::blocks::shape` meets its contract: before turn k the first k cells are shaped.
use mathlib.Core.Path.{◌≡◌, refl}
use native.Mathlib.Omega.{arith}
use borrow.Author.Rules.{rules}
use mir.Syntax.{w8}
use mir.Val.{SFits}
use lib.IntN.{pos}
use lib.ListN.{get_or}
use mir.ValLaws.{to_z-of_z}
use Rattle.voice.specs.Blocks.{shaped_first}
use Rattle.voice.proofs.Cells.{shaped-step}
use Rattle.voice.proofs.blocks.shape.Goals as goal

pub loop-k-init : goal.loop-k-init
unfolding shaped_first
loop-k-init c = (omega arith, refl)

pub loop-k-preserved : goal.loop-k-preserved
loop-k-preserved c =
    let a = c.args in
    let l = c.loop-k in
    let f : SFits w8 (get_or l.samples l.k (pos 0)) = search rules in
    (omega arith, rw (to_z-of_z w8 c.apply_gain_by.result (record { sfits = c.apply_gain_by.type_inv }), c.apply_gain_by.ensures, to_z-of_z w8 c.apply_gain_by-leveled.result (record { sfits = c.apply_gain_by-leveled.type_inv }), c.apply_gain_by-leveled.ensures, to_z-of_z w8 (get_or l.samples l.k (pos 0)) f, l.invariant.1) (shaped-step a.whole a.gain_q8 l.k a.samples.now a.levels.now (pos 0)))

pub returns : goal.returns
returns c = let e : c.loop-k.k ≡ c.args.n = omega arith in rw (← e) c.loop-k.invariant.1
