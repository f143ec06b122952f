-- `allocate::keys::keys_of` meets its contract: one key after another. Assumes nothing.
use Prim.Native.Nat.{◌<◌}
use native.Mathlib.Omega.{arith}
use lib.ListN.{length, length-set}
use Rattle.allocate.proofs.Keyed.{keys_step, keys-end}
use Rattle.allocate.proofs.keys.keys_of.Goals as goal

pub loop-i-preserved : goal.loop-i-preserved
loop-i-preserved c =
    let a = c.args in
    let h : c.loop-i.i < length a.voices = omega (arith, c.well_formed.0.1.0.1) in
    let k : c.loop-i.i < length a.marks = omega (arith, c.well_formed.1.0.1.0.1) in (
      omega arith,
      keys_step a.present a.voices a.marks c.loop-i.i c.loop-i.keys _ _ c.key.result _ h k (omega (arith, c.loop-i.invariant.2)) c.loop-i.invariant.1
          c.key.ensures c.age.ensures,
      rw (length-set c.loop-i.keys) c.loop-i.invariant.2,
    )

pub returns : goal.returns
returns c =
    let a = c.args in
    keys-end a.present a.voices a.marks c.loop-i.i c.loop-i.keys (omega (arith, c.well_formed.0.1.0.1, c.loop-i-test.false)) (omega (arith, c.loop-i.invariant.2, c.loop-i-test.false)) c.loop-i.invariant.1
