-- `bank_writer::cells::put_entries` meets its contract: what is left to write is what there was.
use mathlib.Core.Path.{◌≡◌, refl, sym, ap, ◌∙◌}
use Prim.Native.Nat.{◌+◌, ◌*◌}
use native.Mathlib.Omega.{arith}
use borrow.Author.Rules.{rules}
use lib.ListN.{length}
use lib.Seq.{length-take-le}
use Rattle.bank_writer.proofs.Turns.{taken, entry-turn, entry-end, length-entry}
use Rattle.bank_writer.proofs.cells.put_entries.Goals.{After-entry_bytes-bytes}
use Rattle.bank_writer.proofs.cells.put_entries.Lts as lts
use Rattle.bank_writer.proofs.cells.put_entries.Reads as reads
use Rattle.bank_writer.proofs.cells.put_entries.Tie as tie
use Rattle.bank_writer.proofs.cells.put_entries.Goals as goal

abbrev At-After-entry_bytes-bytes : Type 0
At-After-entry_bytes-bytes = lts.After-entry_bytes tie.the-claims reads.Pre reads.Post goal.the-invariant-loop-k goal.the-decreases-loop-k

size : (c : At-After-entry_bytes-bytes) → length c.entry_bytes-bytes.result ≡ 16
size c = ap length c.entry_bytes-bytes.ensures ∙ length-entry _ _

pub loop-k-init : goal.loop-k-init
loop-k-init c = (omega arith, refl, omega (arith, c.requires.0), refl)

pub bounds-entries-i : goal.bounds-entries-i
bounds-entries-i c =
    let a = c.args in
    let t = taken a.count c.loop-k.k a.places.now c.requires.1 c.loop-k-test.true in rw t.1 (c.requires.2 c.loop-k.k t.0)

pub slice_bounds-put-end : goal.slice_bounds-put-end
slice_bounds-put-end c = let e = size (goal.at.slice_bounds-put-end c).After-entry_bytes-bytes.before in search rules

pub loop-k-preserved : goal.loop-k-preserved
loop-k-preserved c =
    let a = c.args in
    let t = taken a.count c.loop-k.k a.places.now c.requires.1 c.loop-k-test.true in (
      omega (arith, t.0),
      c.put.auto.out ∙ c.loop-k.invariant.1,
      omega (arith, c.loop-k.invariant.2),
      rw (c.put.ensures, c.entry_bytes-bytes.ensures, t.1) (entry-turn c.loop-k.out a.entries a.places.now a.count c.loop-k.k c.loop-k.offset t.0 c.requires.1 ∙ c.loop-k.invariant.3),
    )

pub shape_of-out : goal.shape_of-out
shape_of-out c = c.loop-k.invariant.1

pub returns : goal.returns
returns c =
    let a = c.args in
    let q : c.loop-k.k ≡ a.count = omega (arith, length-take-le a.count a.places.now c.requires.1, c.loop-k-test.false, c.loop-k.invariant.0) in
    sym (entry-end c.loop-k.out a.entries a.places.now a.count (10 + 16 * a.count) c.loop-k.offset) ∙ (rw q at c.loop-k.invariant.3)
