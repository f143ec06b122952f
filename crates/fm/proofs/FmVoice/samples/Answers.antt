-- `fm::FmVoice::samples` meets its contract: the two phases are the oscillator's after k samples, which are stored.
use Rattle.std.proofs.Common.{◌≡◌, refl, length, arith, w8}
use mir.ValLaws.{to_z-of_z}
use Rattle.laws.proofs.Parts.{wrote-all}
use Rattle.laws.proofs.Stores.{wrote_none, front-one}
use Rattle.fm.specs.Fm.{fm_sample}
use Rattle.fm.proofs.FmVoice.samples.Goals as goal

pub loop-cell-init : goal.loop-cell-init
loop-cell-init c = (omega arith, wrote_none _ _)

pub loop-cell-preserved : goal.loop-cell-preserved
unfolding fm_sample
loop-cell-preserved c =
    (omega arith, rw (to_z-of_z w8 c.sample_at.result (record { sfits = c.sample_at.type_inv }), c.sample_at.ensures) (front-one _ _ c.loop-cell.invariant.1))

pub returns : goal.returns
returns c =
    let n = length c.args.out.now in
    let e : c.loop-cell.cell-index ≡ n = omega (arith, c.loop-cell.invariant.0, c.loop-cell-test.false) in
    let w = rw e at c.loop-cell.invariant.1 in
    record { value = w.state; out_after = wrote-all n w refl }
