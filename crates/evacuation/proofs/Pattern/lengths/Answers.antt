-- `evacuation::Pattern::lengths` meets its contract: the first k cells are the first k phases' samples.
use Rattle.std.proofs.Common.{arith, ◌≡◌, ◌<◌, ◌∙◌, refl, length, append-nil, add-one}
use Rattle.evacuation.specs.Pattern.{lengths}
use Rattle.evacuation.proofs.Cycles.{size, six, laid_more}
use Rattle.evacuation.proofs.Pattern.lengths.Goals as goal

pub loop-k-init : goal.loop-k-init
loop-k-init c = (refl, λ h. omega arith)

pub loop-k-preserved : goal.loop-k-preserved
loop-k-preserved c =
    let ns = lengths c.args.self in
    let b : c.loop-k.k < length ns = rw size c.loop-k-test.true in
    (rw (c.loop-k.invariant.0, c.phase_samples.ensures.samples, add-one) (laid_more c.loop-k.k ns _ b c.loop-k-test.true), λ h. c.phase_samples.ensures.rate)

pub returns : goal.returns
returns c =
    let e : c.loop-k.k ≡ 6 = omega arith in
    record { samples = c.loop-k.invariant.0 ∙ rw (e, six, append-nil); rate = c.loop-k.invariant.1 (omega arith) }
