-- `block::fading` meets its contract: voices 0 and 1 run, the others tick.
use Prim.Native.Nat.{◌≤◌}
use native.Mathlib.Nat.{zero-add}
use native.Mathlib.Omega.{arith}
use Rattle.laws.proofs.Made.{made}
use Rattle.mixer.proofs.Laws.{valid-voice}
use Rattle.block.proofs.Cells.{written_as}
use Rattle.block.proofs.Frames.{Pair}
use Rattle.block.proofs.Gather.{faded-cell, faded-state}
use Rattle.block.proofs.Parts.{valid-monos}
use Rattle.block.proofs.fading.Goals.{Start}
use Rattle.block.proofs.fading.Goals as goal

two : (s : Start) → 2 ≤ s.args.m.n
two s = (s.requires.0.fade s.requires.1).0

pair : (s : Start) → let m = s.args.m in Pair m.n m.voices m.crossfade_active
pair s = (s.requires.1, two s, omega (arith, s.requires.0.full))

pub run-ra-requires : goal.run-ra-requires
run-ra-requires c = let h = two (goal.at.run-ra-requires c).Start in valid-voice 0 _ c.requires.0 (omega arith)

pub run-rb-requires : goal.run-rb-requires
run-rb-requires c = let h = two (goal.at.run-rb-requires c).Start in valid-voice 1 _ c.requires.0 (omega arith)

pub write_faded-requires : goal.write_faded-requires
write_faded-requires c = (c.requires.2, c.requires.3, c.requires.4 c.requires.1, c.gain_factor.ensures.1)

pub moved-requires : goal.moved-requires
moved-requires c = rw c.rested-mixed.ensures (c.requires.4, λ a. (c.requires.0.fade a).1)

pub returns : goal.returns
returns c =
    let m = c.args.m in
    let r = c.args.marks in
    let len = c.args.len in
    let fa = c.run-ra.ensures in
    let fb = c.run-rb.ensures in
    record {
      mixer = made (faded-state m r len _ (pair (goal.at.returns c).Start) c.requires.2 c.requires.4 fa fb _ _ c.rested-mixed.ensures c.moved.ensures) (valid-monos len m c.requires.0);
      cells = rw zero-add (written_as (faded-cell m r len _ (pair (goal.at.returns c).Start) c.requires.2 c.requires.4 fa fb c.gain_factor.ensures.0) c.write_faded.ensures);
    }

pub rested-mixed-requires : goal.rested-mixed-requires
rested-mixed-requires c = (c.requires.0, two c, c.requires.2)
