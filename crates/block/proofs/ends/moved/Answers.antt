-- `block::ends::moved` meets its contract.
-- the whole way, and that it is no shorter than the frames are many
use Prim.Native.Nat.{◌+◌, ◌*◌, ◌≤◌, ◌<◌}
use native.Mathlib.Nat.{add-zero, mul-zero, zero-mul, mul-le-mul_left}
use native.Mathlib.Omega.{arith}
use mathlib.Core.Path.{◌≡◌}
use Rattle.frame.specs.Fades.{fade_at}
use Rattle.block.proofs.ends.moved.Goals.{Then-len-gt0}
use Rattle.block.proofs.ends.moved.Goals as goal

record Way (c : Then-len-gt0) : Type 0 where
  far : let a = c.before.before.args in a.m.crossfade_t_q8 + a.len * a.m.crossfade_step_q8 < 255
  long : let a = c.before.before.args in a.len * 1 ≤ a.len * a.m.crossfade_step_q8

way : (c : Then-len-gt0) → Way c
way c = record { far = c.requires.0 c.if-m.true c.if-len-gt0.true; long = mul-le-mul_left c.args.len (c.requires.1 c.if-m.true) }

pub overflow_cast-t : goal.overflow_cast-t
overflow_cast-t c = let w = way c in omega (arith, w.far, w.long)

pub overflow_mul-t : goal.overflow_mul-t
overflow_mul-t c = let w = way (goal.at.overflow_mul-t c).Then-len-gt0 in omega (arith, w.far)

pub overflow_add-t : goal.overflow_add-t
overflow_add-t c = let w = way (goal.at.overflow_add-t c).Then-len-gt0 in omega (arith, w.far)

pub returns-then-len-gt0 : goal.returns-then-len-gt0
unfolding fade_at
returns-then-len-gt0 c = rw c.if-m.true

pub returns-else-len-gt0 : goal.returns-else-len-gt0
unfolding fade_at
returns-else-len-gt0 c = let z : c.args.len ≡ 0 = omega arith in rw (z, zero-mul, add-zero)

pub returns-else-m : goal.returns-else-m
unfolding fade_at
returns-else-m c = rw (c.if-m.false, mul-zero, add-zero)
