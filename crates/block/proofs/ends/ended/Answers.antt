-- `block::ends::ended` meets its contract.
use Prim.Native.Nat.{◌≤◌}
use native.Mathlib.Omega.{arith}
use lib.ListN.{length}
use Rattle.laws.proofs.Made.{made}
use Rattle.mixer.proofs.Laws.{valid-voice}
use Rattle.frame.proofs.Laws.{valid-ended}
use Rattle.block.proofs.Parts.{ended_is}
use Rattle.block.proofs.ends.ended.Goals.{Start}
use Rattle.block.proofs.ends.ended.Goals as goal

two : (s : Start) → 2 ≤ s.args.m.n
two s = (s.requires.0.fade s.requires.1).0

pub envelope_after-adsr-requires : goal.envelope_after-adsr-requires
envelope_after-adsr-requires c = let h = two (goal.at.envelope_after-adsr-requires c).Start in valid-voice 0 _ c.requires.0 (omega arith)

pub stop_immediate-second-requires : goal.stop_immediate-second-requires
stop_immediate-second-requires c = let h = two (goal.at.stop_immediate-second-requires c).Start in valid-voice 1 _ c.requires.0 (omega arith)

pub returns : goal.returns
returns c =
    let h = two (goal.at.returns c).Start in
    let l : 2 ≤ length c.args.m.voices = omega (arith, c.requires.0.full) in
    made (ended_is _ c.args.m _ _ _ _ l c.taken_over-first.ensures c.envelope_after-adsr.ensures c.stop_immediate-second.ensures.same) (valid-ended _ c.requires.0 h)
