-- What is left to play gives what all gives. Assumes nothing.
use Prim.Native.Nat.{◌-◌}
use Rattle.marks.specs.Marks.{beside}
use Rattle.requests.proofs.Beside.{Going}
use Rattle.requests.proofs.play_each.Given as goal

abbrev pub invariant-loop-i : goal.invariant-loop-i
invariant-loop-i l = Going l.present (beside l.initial.mixer l.marks) l.bytes l.requests l.initial.outcomes l.count l.i l.mixer l.rules l.keys l.sounding l.outcomes

abbrev pub decreases-loop-i : goal.decreases-loop-i
decreases-loop-i l = l.count - l.i
