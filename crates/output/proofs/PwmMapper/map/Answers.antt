-- `output::PwmMapper::map` meets its contract: each mode's arm is its clause of the definition.
use Rattle.std.proofs.Common.{rules, w8, FitsSigned}
use Rattle.std.proofs.lemmas.Int.{to_z-of_z}
use Rattle.laws.proofs.Made.{made}
use Rattle.output.specs.Duty.{mapped}
use Rattle.output.proofs.Laws.{valid-mapped}
use Rattle.output.proofs.PwmMapper.map.Goals as goal

pub returns-in-Linear : goal.returns-in-Linear
unfolding mapped
returns-in-Linear c =
    made (rw (c.pcm_to_duty.ensures, to_z-of_z w8 _ c.ranges.pcm, c.in-Linear.is)) (valid-mapped c.args.self c.args.pcm c.args.period c.requires c.ranges.pcm)

pub returns-in-SigmaDelta : goal.returns-in-SigmaDelta
unfolding mapped
returns-in-SigmaDelta c =
    let f : FitsSigned w8 c.shape-s.result.pcm = search rules in
    made (rw (c.pcm_to_duty-in-SigmaDelta.ensures, to_z-of_z w8 _ f, c.shape-s.ensures, to_z-of_z w8 _ c.ranges.pcm, c.in-SigmaDelta.is))
    (valid-mapped c.args.self c.args.pcm c.args.period c.requires c.ranges.pcm)

pub returns-in-SigmaDelta2ndOrder : goal.returns-in-SigmaDelta2ndOrder
unfolding mapped
returns-in-SigmaDelta2ndOrder c =
    let f : FitsSigned w8 c.shape-s-in-SigmaDelta2ndOrder.result.pcm = search rules in
    made (rw (c.pcm_to_duty-in-SigmaDelta2ndOrder.ensures, to_z-of_z w8 _ f, c.shape-s-in-SigmaDelta2ndOrder.ensures.same, to_z-of_z w8 _ c.ranges.pcm, c.in-SigmaDelta2ndOrder.is))
    (valid-mapped c.args.self c.args.pcm c.args.period c.requires c.ranges.pcm)
