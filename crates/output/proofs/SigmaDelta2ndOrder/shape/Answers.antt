-- `output::SigmaDelta2ndOrder::shape` meets its contract. Each stage leaves an error that the next stage and the next sample can take.
use Rattle.std.proofs.Common.{rules, arith, ◌≡◌, ◌∙◌, ◌≤◌, ℤ, pos, ◌+ℤ◌, ◌*ℤ◌, to_z, of_z, w8, w32, FitsSigned}
use lib.Signed.{mag, nat_abs-le}
use Rattle.laws.proofs.Signed.{mag-add, abs-fits}
use Rattle.std.proofs.lemmas.Int.{ints, to_z-of_z}
use Rattle.laws.proofs.Made.{made}
use Rattle.output.specs.Shapers.{shaped2nd_order}
use Rattle.output.proofs.Laws.{valid-shaped}
use Rattle.output.proofs.SigmaDelta2ndOrder.shape.Goals as goal

pub overflow_add-first : goal.overflow_add-first
overflow_add-first c = omega (arith, ints)

-- two levels read back, and their sum
levels_c : (a b : ℤ) → mag a ≤ 32767 → mag b ≤ 32767 → to_z w32 (of_z w32 (to_z w32 (of_z w32 a) +ℤ to_z w32 (of_z w32 b))) ≡ a +ℤ b
levels_c a b f g = omega (arith, ints)

pub pulse-requires : goal.pulse-requires
pulse-requires c =
    let a = c.stage-first in
    let b = c.stage-second in
    rw (levels_c a.result.y b.result.y a.ensures.small_level b.ensures.small_level) (mag-add a.result.y b.result.y 32768 32767 (nat_abs-le a.result.y (omega (arith, a.ensures.small_level))) b.ensures.small_level)

pub returns : goal.returns
unfolding shaped2nd_order
returns c =
    let a = c.stage-first in
    let b = c.stage-second in
    let s = c.from.ensures ∙ to_z-of_z w8 _ c.ranges.pcm in
    let w : FitsSigned w32 c.args.pcm = omega (arith, ints) in
    let g : FitsSigned w32 (c.args.pcm *ℤ pos 256) = omega (arith, ints) in
    let p : FitsSigned w8 c.pulse.result = search rules in
    let k : FitsSigned w32 a.result.e = abs-fits 32767 a.ensures.small_error tt in
    let l : FitsSigned w32 b.result.e = abs-fits 32767 b.ensures.small_error tt in
    let e1 : FitsSigned w32 c.args.self.e1 = abs-fits 32767 c.requires.first tt in
    let e2 : FitsSigned w32 c.args.self.e2 = abs-fits 32767 c.requires.second tt in
    made
    (rw (
      to_z-of_z w32 _ k,
      to_z-of_z w32 _ l,
      to_z-of_z w8 _ p,
      c.pulse.ensures,
      levels_c _ _ a.ensures.small_level b.ensures.small_level,
      b.ensures.level,
      b.ensures.error,
      to_z-of_z w32 _ k,
      to_z-of_z w32 _ e2,
      a.ensures.level,
      a.ensures.error,
      s,
      to_z-of_z w32 _ w,
      to_z-of_z w32 _ g,
      to_z-of_z w32 _ e1,
    ))
    (valid-shaped c.args.self c.args.pcm c.requires c.ranges.pcm)
