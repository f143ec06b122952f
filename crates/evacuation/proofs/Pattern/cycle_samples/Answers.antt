-- `evacuation::Pattern::cycle_samples` meets its contract: the sum so far is the first k phases', each of one sample at least.
use Rattle.std.proofs.Common.{arith, ◌≡◌, ◌∙◌, refl, add-one}
use Rattle.evacuation.specs.Pattern.{lengths, total, cycle_of}
use Rattle.evacuation.proofs.Cycles.{total-more, most-samples, some-samples, six}
use Rattle.evacuation.proofs.Pattern.cycle_samples.Goals as goal

pub loop-n-init : goal.loop-n-init
unfolding total
loop-n-init c = (refl, omega arith, omega arith)

pub overflow_add-samples : goal.overflow_add-samples
overflow_add-samples c =
    let p = c.lengths-n-items.ensures in
    let m = most-samples p.rate c.loop-n.n-index c.loop-n-test.true in
    record { fits = rw p.samples (omega (arith, c.loop-n.invariant.1, m)) }

pub loop-n-preserved : goal.loop-n-preserved
loop-n-preserved c =
    let p = c.lengths-n-items.ensures in
    let m = most-samples p.rate c.loop-n.n-index c.loop-n-test.true in
    let s = some-samples p.rate c.loop-n.n-index c.loop-n-test.true in
    let t = total-more c.loop-n.n-index (lengths c.args.self) in
    let i = c.loop-n.invariant in
    rw p.samples (rw add-one (omega (arith, i.0)), omega (arith, i.1), omega (arith, i.2))

pub returns : goal.returns
unfolding cycle_of
returns c =
    let e : c.loop-n.n-index ≡ 6 = omega arith in
    record { samples = c.loop-n.invariant.0 ∙ rw (e, six c.args.self); some = omega (arith, c.loop-n.invariant.2) }
