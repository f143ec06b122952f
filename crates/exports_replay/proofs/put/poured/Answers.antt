-- `exports_replay::put::poured` meets its contract: a copy as far as there is room, or none.
use mathlib.Core.Path.{◌≡◌, sym}
use Prim.Native.Nat.{◌+◌, ◌-◌}
use native.Mathlib.Omega.{arith}
use Rattle.exports_replay.proofs.Room.{copied, sets-out}
use Rattle.exports_replay.proofs.put.poured.Goals as goal

pub returns-then-at-out : goal.returns-then-at-out
returns-then-at-out g c =
    let a = c.args in
    let n : a.at + c.min-n.result - a.at ≡ c.min-n.result = omega arith in
    rw (n, c.copy_from_slice.ensures.after) (copied a.out.now a.from.now a.at c.min-n.result (omega arith) c.min-n.ensures)

pub returns-else-at-out : goal.returns-else-at-out
returns-else-at-out g c = let a = c.args in sym (sets-out a.out.now a.at a.from.now c.if-at-out.false)
