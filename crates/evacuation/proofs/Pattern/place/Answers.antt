-- `evacuation::Pattern::place` meets its contract: what is left of the place in the cycle, with the phases passed, is the whole.
use Rattle.std.proofs.Common.{arith, ◌≡◌, ◌<◌, ℕ, List, length, take, get_or, add-one}
use native.Mathlib.Nat.{add-zero}
use lib.Seq.{length-take-le, get_or-take}
use Rattle.evacuation.specs.Pattern.{lengths, total}
use Rattle.evacuation.proofs.Cycles.{size, total-more, stands-into, in-last}
use Rattle.evacuation.proofs.Pattern.place.Goals as goal

five : (rate : ℕ) (ns : List ℕ) → ns ≡ lengths rate → length (take 5 ns) ≡ 5
five rate ns e = rw e (length-take-le 5 (lengths rate) (omega (arith, size rate)))

at : (rate k : ℕ) (ns : List ℕ) → ns ≡ lengths rate → k < 5 → get_or (take 5 ns) k 0 ≡ get_or (lengths rate) k 0
at rate k ns e h = rw e (get_or-take 5 (lengths rate) k 0 h)

pub loop-k-init : goal.loop-k-init
unfolding total
loop-k-init c = rw (c.from.ensures, c.cycle_samples.ensures.samples, add-zero)

pub returns-then-at-n : goal.returns-then-at-n
returns-then-at-n c =
    let s = c.lengths-lengths.ensures.samples in
    let h : c.loop-k.k < 5 = omega (arith, five _ _ s, c.loop-k-test.true) in
    let e = at _ c.loop-k.k _ s h in
    rw e (stands-into _ c.args.sample c.loop-k.k c.loop-k.at (omega arith) c.loop-k.invariant (rw e at c.if-at-n.true))

pub loop-k-preserved : goal.loop-k-preserved
loop-k-preserved c =
    let s = c.lengths-lengths.ensures.samples in
    let h : c.loop-k.k < 5 = omega (arith, five _ _ s, c.loop-k-test.true) in
    let e = at _ c.loop-k.k _ s h in
    let m = total-more c.loop-k.k (lengths c.args.self) in
    rw add-one (omega (arith, c.loop-k.invariant, e, m, c.if-at-n.false))

pub overflow_sub-result-2 : goal.overflow_sub-result-2
overflow_sub-result-2 c =
    let p = c.lengths-lengths.ensures in
    let e : c.loop-k.k ≡ 5 = omega (arith, five _ _ p.samples, c.loop-k-test.false, c.loop-k.auto.k-end) in
    let l = in-last p.rate c.args.sample c.loop-k.at (rw e at c.loop-k.invariant) in
    rw p.samples (omega (arith, l))

pub returns : goal.returns
returns c =
    let p = c.lengths-lengths.ensures in
    let e : c.loop-k.k ≡ 5 = omega (arith, five _ _ p.samples, c.loop-k-test.false, c.loop-k.auto.k-end) in
    let i = rw e at c.loop-k.invariant in
    rw p.samples (stands-into _ c.args.sample 5 c.loop-k.at (omega arith) i (in-last p.rate c.args.sample c.loop-k.at i))
