-- Those so far are copied.
use Rattle.std.proofs.Common.{◌≡◌, length, take}
use Rattle.replay_session.specs.Sessions.{bytes_at}
use Rattle.replay_session.proofs.copy_bytes.Given as goal

abbrev pub invariant-loop-i : goal.invariant-loop-i
invariant-loop-i l = (length l.lent ≡ length l.initial.lent) × (take l.i l.lent ≡ bytes_at l.l 1 l.i)
