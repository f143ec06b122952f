-- `bank_writer::cells::put` meets its contract: the part that is copied over is what stores, one by one, would leave.
use native.Mathlib.Omega.{arith}
use Rattle.bank_writer.proofs.Turns.{put-part}
use Rattle.bank_writer.proofs.cells.put.Goals as goal

pub returns : goal.returns
returns c =
    let a = c.args in
    rw c.copy_from_slice.ensures.after (put-part a.out.now a.bytes.now a.at _ (omega arith) c.requires)
