-- `replay_leaves::runs::put_mapper` meets its contract: the texts of the three sums, one after the other.
use mathlib.Core.Path.{ap, ◌∙◌}
use borrow.Author.Rules.{rules}
use native.Mathlib.Omega.{arith}
use mir.Syntax.{w32}
use mir.Val.{of_z}
use Rattle.hex_digits.proofs.Bits.{back}
use Rattle.hex_digits.proofs.Texts.{shown, then}
use Rattle.replay_leaves.proofs.runs.put_mapper.Goals as goal

pub returns : goal.returns
returns c = (
  then
      (then
      (then
      (shown 8 (c.cast_unsigned.ensures ∙ ap (of_z w32) (back w32 c.args.m.sigma_delta.integrator (search rules))) c.put-n1.ensures.0)
      (shown 8 (c.cast_unsigned-2.ensures ∙ ap (of_z w32) (back w32 c.e1.result c.e1.type_inv ∙ c.e1.ensures)) c.put-n2.ensures.0))
      (shown 8 (c.cast_unsigned-3.ensures ∙ ap (of_z w32) (back w32 c.e2.result c.e2.type_inv ∙ c.e2.ensures)) c.put-n3.ensures.0))
      c.end_line.ensures.0,
  omega (arith, c.put-n1.ensures.1, c.put-n2.ensures.1, c.put-n3.ensures.1, c.end_line.ensures.1),
)
