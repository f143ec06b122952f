-- `bank_writer::cells::put_payloads` meets its contract: what is left to write is what there was.
use mathlib.Core.Path.{◌≡◌, refl, sym, ◌∙◌}
use Prim.Native.Nat.{ℕ, ◌+◌, ◌<◌, ◌≤◌}
use native.Mathlib.Omega.{arith}
use borrow.Author.Rules.{rules}
use mathlib.Core.List.{List}
use lib.ListN.{get_or, length, take}
use lib.Seq.{length-take-le}
use Rattle.bank_writer.specs.Places.{Cut}
use Rattle.bank_writer.proofs.Turns.{taken, payload-turn, payload-room, payload-end, length_cut}
use Rattle.bank_writer.proofs.cells.put_payloads.Goals as goal

pub loop-place-init : goal.loop-place-init
loop-place-init c = (omega arith, refl, c.requires.places_in_bounds, refl)

-- the payload of the k-th place that is taken
cut : (starts payloads places : List ℕ) (n k : ℕ) → n ≤ length places → ((k : ℕ) → k < n → (get_or places k 0 < 64) × Cut starts payloads (get_or places k 0))
    → k < length (take n places) → Cut starts payloads (get_or (take n places) k 0)
cut starts payloads places n k h f l = let t = taken n k places h l in rw t.1 (f k t.0).1

pub slice_bounds-put-count : goal.slice_bounds-put-count
slice_bounds-put-count c =
    let a = c.args in
    let b = c.requires.count_bound in (cut a.starts.now a.payloads.now a.places.now a.count c.loop-place.place-index b.1 b.2 c.loop-place-test.true).ordered

pub slice_bounds-put-start : goal.slice_bounds-put-start
slice_bounds-put-start c =
    let a = c.args in
    let b = c.requires.count_bound in
    let d = cut a.starts.now a.payloads.now a.places.now a.count c.loop-place.place-index b.1 b.2 c.loop-place-test.true in
    search rules

pub slice_bounds-put-end : goal.slice_bounds-put-end
slice_bounds-put-end c =
    let a = c.args in
    let b = c.requires.count_bound in
    let d = cut a.starts.now a.payloads.now a.places.now a.count c.loop-place.place-index b.1 b.2 c.loop-place-test.true in
    search rules

pub put-requires : goal.put-requires
put-requires c =
    let a = c.args in
    let b = c.requires.count_bound in
    let t = taken a.count c.loop-place.place-index a.places.now b.1 c.loop-place-test.true in
    rw t.1 (omega (arith, payload-room c.loop-place.out a.starts.now a.payloads.now a.places.now a.count c.loop-place.place-index c.loop-place.at t.0 b.1, c.loop-place.invariant.1, c.loop-place.invariant.2))

pub overflow_sub-at : goal.overflow_sub-at
overflow_sub-at c =
    let a = c.args in
    let b = c.requires.count_bound in (cut a.starts.now a.payloads.now a.places.now a.count c.loop-place.place-index b.1 b.2 c.loop-place-test.true).ordered

pub loop-place-preserved : goal.loop-place-preserved
loop-place-preserved c =
    let a = c.args in
    let b = c.requires.count_bound in
    let l = c.loop-place in
    let t = taken a.count l.place-index a.places.now b.1 c.loop-place-test.true in
    let d = (b.2 l.place-index t.0).1 in
    let n = length_cut (get_or a.starts.now (get_or a.places.now l.place-index 0) 0) (get_or a.starts.now (get_or a.places.now l.place-index 0 + 1) 0) a.payloads.now d.ordered d.within in (
      omega (arith, t.0),
      c.put.auto.out ∙ l.invariant.1,
      rw t.1 (omega (arith, payload-room l.out a.starts.now a.payloads.now a.places.now a.count l.place-index l.at t.0 b.1, n, l.invariant.2)),
      rw (c.put.ensures, t.1) (payload-turn l.out a.starts.now a.payloads.now a.places.now a.count l.place-index l.at t.0 b.1 d ∙ l.invariant.3),
    )

pub shape_of-out : goal.shape_of-out
shape_of-out c = c.loop-place.invariant.1

pub returns : goal.returns
returns c =
    let a = c.args in
    let q : c.loop-place.place-index ≡ a.count = omega (arith, length-take-le a.count a.places.now c.requires.count_bound.1, c.loop-place-test.false, c.loop-place.invariant.0) in
    sym (payload-end c.loop-place.out a.starts.now a.payloads.now a.places.now a.count c.loop-place.at) ∙ (rw q at c.loop-place.invariant.3)
