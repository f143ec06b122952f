-- `bank_writer::entries_from` meets its contract: each entry is that of its index.
use borrow.Author.Rules.{rules}
use Prim.Native.Nat.{◌*◌}
use Rattle.bank_writer.specs.Bytes.{entry_from}
use Rattle.bank_writer.proofs.Turns.{given-from_fn}
use Rattle.bank_writer.proofs.entries_from.Goals as goal

pub returns : goal.returns
returns c =
    given-from_fn _ (λ i. entry_from c.args.bytes.now (13 * i)) _ (λ x r q k. search rules) c.from_fn.result 64 c.from_fn.ensures.items
