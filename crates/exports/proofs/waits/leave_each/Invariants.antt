-- Those that are still to be left, from each turn on, give what all give.
use Prim.Native.Nat.{◌-◌}
use Rattle.exports.proofs.Leaving.{Leaving}
use Rattle.exports.proofs.waits.leave_each.Given as goal

abbrev pub invariant-loop-i : goal.invariant-loop-i
invariant-loop-i l = Leaving l.initial.s l.left l.initial.numbers l.count l.i l.s l.numbers

abbrev pub decreases-loop-i : goal.decreases-loop-i
decreases-loop-i l = l.count - l.i
