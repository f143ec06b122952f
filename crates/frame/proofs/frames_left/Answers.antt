-- `frame::frames_left` meets its contract: each arm is what is left, by a law.
use native.Mathlib.Omega.{arith}
use mathlib.Core.Path.{sym}
use Rattle.frame.proofs.Lasting.{valid-moves, left-most, left-none, left_one, left-some}
use Rattle.frame.proofs.frames_left.Goals as goal

pub returns-then-t : goal.returns-then-t
returns-then-t c = sym (left_one _ (valid-moves c.requires) c.if-m.true c.if-t.true)

pub nonzero_div-result : goal.nonzero_div-result
nonzero_div-result c = valid-moves c.requires c.if-m.true

pub returns-then-m : goal.returns-then-m
returns-then-m c = sym (left-some _ (valid-moves c.requires) c.if-m.true (omega (arith, c.if-t.false)))

pub overflow_add-result : goal.overflow_add-result
overflow_add-result c = omega (arith, left-most c.args.m (valid-moves c.requires), returns-then-m c)

pub returns : goal.returns
returns c = sym (left-none _ c.if-m.false)
