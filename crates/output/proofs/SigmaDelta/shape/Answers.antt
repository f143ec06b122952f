-- `output::SigmaDelta::shape` meets its contract: the wrapped sum is document 01's, and what is not negative can lose 65,536.
use Rattle.std.proofs.Common.{rules, arith, ◌≡◌, ◌∙◌, ◌+◌, ◌%◌, true, ℤ, pos, ◌+ℤ◌, ◌-ℤ◌, ◌*ℤ◌, to_z, of_z, w8, w32, FitsSigned}
use Rattle.std.proofs.lemmas.Int.{ints, wrapping_add_is, to_z-of_z}
use lib.Signed.{le_z}
use Rattle.laws.specs.Whole.{wrap32}
use Rattle.output.specs.Shapers.{shaped}
use Rattle.output.proofs.Laws.{int_wrap-wrap32, wrap32-fits}
use Rattle.output.proofs.SigmaDelta.shape.Goals as goal

-- the code's sum
sum_c : (a s r : ℤ) → FitsSigned w32 a → FitsSigned w8 s → r ≡ to_z w8 (of_z w8 s)
    → to_z w32 ((of_z w32 a + of_z w32 (to_z w32 (of_z w32 r) *ℤ pos 256)) % 4294967296) ≡ wrap32 (a +ℤ s *ℤ pos 256)
sum_c a s r p q e =
    let g : FitsSigned w32 (s *ℤ pos 256) = omega (arith, ints) in
    let w : FitsSigned w32 s = omega (arith, ints) in
    rw (e, to_z-of_z w8 s q, to_z-of_z w32 s w) (wrapping_add_is w32 a (s *ℤ pos 256) p g ∙ int_wrap-wrap32 _)

less : (z : ℤ) → FitsSigned w32 z → le_z (pos 0) z ≡ true → FitsSigned w32 (z -ℤ pos 65536)
less z f t = grind (arith, ints)

pub returns-then-sum-ge0 : goal.returns-then-sum-ge0
unfolding shaped
returns-then-sum-ge0 c =
    let f : FitsSigned w32 c.args.self.integrator = search rules in
    let e = sum_c _ c.args.pcm _ f c.ranges.pcm c.from.ensures in
    let t = rw e at c.if-sum-ge0.true in
    rw (e, to_z-of_z w32 _ (less _ (wrap32-fits _) t), t)

pub returns-else-sum-ge0 : goal.returns-else-sum-ge0
unfolding shaped
returns-else-sum-ge0 c =
    let f : FitsSigned w32 c.args.self.integrator = search rules in
    let e = sum_c _ c.args.pcm _ f c.ranges.pcm c.from.ensures in
    let t = rw e at c.if-sum-ge0.false in
    rw (e, t)
