-- `block::sound` meets its contract: over a fade's end, or frames in which none ends.
use borrow.Author.Rules.{rules}
use Prim.Native.Nat.{◌≤◌}
use native.Mathlib.Omega.{arith}
use mathlib.Core.Path.{◌≡◌}
use lib.ListN.{length}
use Rattle.block.specs.Parts.{Slow}
use Rattle.block.proofs.Parts.{slow-all, part-stretch, stretch-whole}
use Rattle.block.proofs.sound.Goals.{After-fade_frames-f, Else-f-n}
use Rattle.block.proofs.sound.Goals as goal

few : (y : After-fade_frames-f) → y.block_len-n.result ≤ 256
few y = omega (arith, y.block_len-n.ensures)

full : (y : After-fade_frames-f) → (length y.args.left.now ≡ 256) × (length y.args.right.now ≡ 256)
full y = (search rules, search rules)

-- no fade ends in the block
slow : (e : Else-f-n) → Slow e.args.p.mixer e.block_len-n.result
slow e = slow-all e.args.p.mixer _ _ e.requires e.fade_frames-f.ensures (omega (arith, e.if-f-n.false))

pub returns-then-f-n : goal.returns-then-f-n
returns-then-f-n c =
    stretch-whole c.block_len-n.ensures (few (goal.at.returns-then-f-n c).After-fade_frames-f) (full (goal.at.returns-then-f-n c).After-fade_frames-f).0 (full (goal.at.returns-then-f-n c).After-fade_frames-f).1 c.over_end.ensures

pub steady-mixer-requires : goal.steady-mixer-requires
steady-mixer-requires c =
    (c.requires, few (goal.at.steady-mixer-requires c).After-fade_frames-f, (full (goal.at.steady-mixer-requires c).After-fade_frames-f).0, (full (goal.at.steady-mixer-requires c).After-fade_frames-f).1, slow (goal.at.steady-mixer-requires c).Else-f-n)

pub returns : goal.returns
returns c =
    let p = c.args.p in
    stretch-whole c.block_len-n.ensures (few (goal.at.returns c).After-fade_frames-f) (full (goal.at.returns c).After-fade_frames-f).0 (full (goal.at.returns c).After-fade_frames-f).1 (part-stretch p.marks p.mixer _ (slow (goal.at.returns c).Else-f-n) c.steady-mixer.ensures)

pub fade_frames-f-requires : goal.fade_frames-f-requires
fade_frames-f-requires c = λ a. (c.requires.fade a).1

pub over_end-requires : goal.over_end-requires
over_end-requires c =
    (c.requires, few (goal.at.over_end-requires c).After-fade_frames-f, (full (goal.at.over_end-requires c).After-fade_frames-f).0, (full (goal.at.over_end-requires c).After-fade_frames-f).1, c.fade_frames-f.ensures, c.if-f-n.true)
