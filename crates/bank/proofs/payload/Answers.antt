-- `bank::payload` meets its contract: a payload that is whole ends within the bytes.
use borrow.Author.Rules.{rules}
use mathlib.Core.Bool.{false}
use mathlib.Core.Path.{sym}
use Rattle.bank.proofs.Laws.{whole-within}
use Rattle.bank.proofs.payload.Goals as goal

pub slice_bounds-result-end-in-Ok : goal.slice_bounds-result-end-in-Ok
slice_bounds-result-end-in-Ok c =
    let a = c.args in
    let h = whole-within false a.bank a.bytes.now a.offset a.len (sym c.in-Ok.ensures) in
    search rules
