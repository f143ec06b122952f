-- `block::panned` meets its contract: the voices one by one, then each side. The measure is the voices left.
use Prim.Native.Nat.{◌-◌, ◌≤◌}
use mathlib.Core.Path.{◌≡◌}
use Rattle.frame.specs.Frames.{left_of, right_of}
use Rattle.mixer.specs.Mixers.{with_voices}
use Rattle.block.proofs.Frames.{run_all, side_at}
use Rattle.block.proofs.Gather.{Summed}
use Rattle.block.proofs.panned.Given as goal

abbrev pub invariant-loop-i : goal.invariant-loop-i
invariant-loop-i l =
    (l.i ≤ l.n)
    × (l.mixed ≡ with_voices l.m (run_all l.len l.i l.m.voices))
    × Summed (side_at left_of l.marks) l.len l.i l.m.voices l.lefts
    × Summed (side_at right_of l.marks) l.len l.i l.m.voices l.rights

abbrev pub decreases-loop-i : goal.decreases-loop-i
decreases-loop-i l = l.n - l.i
