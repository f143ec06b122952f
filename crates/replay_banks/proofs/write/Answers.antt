-- `replay_banks::write` meets its contract: what the call tells is the word.
-- all that is left behind e is what stands there
use mathlib.Core.Path.{◌≡◌, sym}
use mathlib.Core.List.{List}
use Prim.Native.Nat.{ℕ, ◌-◌}
use native.Mathlib.Omega.{arith}
use lib.ListN.{length, take, drop, length-drop}
use lib.Seq.{length-take-le, take_all}
use Rattle.replay_banks.specs.Record.{bank_of}
use Rattle.replay_banks.proofs.Shown.{left-refused, left-length}
use Rattle.replay_banks.proofs.write.Goals as goal

all_left : (e : ℕ) (l : List ℕ) → take (length l - e) (drop e l) ≡ drop e l
all_left e l = take_all (length l - e) (drop e l) (rw length-drop (omega arith))

pub slice_bounds-entries_from-end : goal.slice_bounds-entries_from-end
slice_bounds-entries_from-end c = sym (length-take-le c.end_of-end.result _ (omega (arith, c.end_of-end.ensures)))

pub returns-in-Err : goal.returns-in-Err
unfolding bank_of
returns-in-Err c =
    let rest = c.args.rest.now in
    let v = rw c.in-Err.is at c.write_bank.ensures in
    rw (sym c.byte_at-count.ensures, sym c.end_of-end.ensures, sym c.entries_from-entries.ensures, sym c.header.ensures, sym (all_left c.end_of-end.result rest), sym c.from.ensures, c.from-in-Err-2.ensures, c.from-in-Err.ensures) (left-refused v)

pub returns-in-Ok : goal.returns-in-Ok
unfolding bank_of
returns-in-Ok c =
    let rest = c.args.rest.now in
    let v = rw c.in-Ok.is at c.write_bank.ensures in
    rw (sym c.byte_at-count.ensures, sym c.end_of-end.ensures, sym c.entries_from-entries.ensures, sym c.header.ensures, sym (all_left c.end_of-end.result rest), sym c.from.ensures) (left-length v)
