-- `bank_writer::checks::starts_of` meets its contract: the first i + 1 starts stand.
use mathlib.Core.Path.{◌≡◌, refl, sym}
use Prim.Native.Nat.{◌+◌, ◌<◌}
use native.Mathlib.Omega.{arith}
use lib.ListN.{length, get_or, take, length-set}
use Rattle.bank_writer.specs.Order.{no_entry}
use Rattle.bank_writer.specs.Refusals.{total_of}
use Rattle.bank_writer.proofs.Pairs.{total-nil, total-step}
use Rattle.bank_writer.proofs.Turns.{starts-turn}
use Rattle.bank_writer.proofs.checks.starts_of.Goals as goal

pub loop-i-init : goal.loop-i-init
loop-i-init c = (omega arith, refl, sym total-nil, omega arith, λ k h. let q : k ≡ 0 = omega arith in rw q (sym total-nil))

pub loop-i-preserved : goal.loop-i-preserved
loop-i-preserved c =
    let es = c.args.entries in
    let i = c.loop-i.i in
    let h : i < length es = omega (arith, c.well_formed.0.1.0.1) in
    let v : c.loop-i.next + (get_or es i no_entry).len ≡ total_of (take (i + 1) es) = omega (arith, c.loop-i.invariant.2, total-step es i h) in
    (omega arith, simp length-set c.loop-i.invariant.1, v, omega (arith, c.loop-i.invariant.3), starts-turn es c.loop-i.starts i (c.loop-i.next + (get_or es i no_entry).len) (omega (arith, c.loop-i.invariant.1)) v c.loop-i.invariant.4)

pub returns : goal.returns
returns c i h = c.loop-i.invariant.4 i (omega (arith, c.well_formed.0.1.0.1, c.loop-i-test.false))
