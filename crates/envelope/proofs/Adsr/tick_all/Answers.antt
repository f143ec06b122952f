-- The envelope is the one after k ticks, and what is stored are their levels. The measure is the ticks left. Assumes nothing.
use Rattle.std.proofs.Common.{arith, ◌≡◌, ◌∙◌, refl, ap, ◌+◌, ◌-◌, ◌≤◌, length}
use native.Mathlib.Nat.{zero-add}
use borrow.Rule.Slice.PartMut.{put_mid}
use lib.Seq.{sets}
use Rattle.laws.specs.Runs.{after, given}
use Rattle.laws.proofs.Parts.{part-length, part-sets, wrote-all}
use Rattle.laws.proofs.Stores.{wrote_none, wrote_one, wrote-more, length-cells}
use Rattle.envelope.specs.declared.Adsr.{Adsr}
use Rattle.envelope.specs.Adsrs.{ticked}
use Rattle.envelope.specs.Blocks.{level_after}
use Rattle.envelope.proofs.Adsr.tick_all.Goals as goal

pub loop-k-init : goal.loop-k-init
loop-k-init c = (omega arith, c.requires, wrote_none _ _)

pub loop-k-preserved : goal.loop-k-preserved
loop-k-preserved c =
    let l = c.loop-k in
    let n = c.ticks_within-n.result in
    let cells = c.within-a.new.out in
    let h : l.k + n ≤ length l.out = omega (arith, c.ticks_within-n.ensures.0, c.loop-k-test.true) in
    let m = part-length l.out l.k n h in
    let s : c.within-a.result ≡ after ticked n l.a = rw m at c.within-a.ensures.made.same in
    let f : cells ≡ given ticked level_after n l.a = rw m at c.within-a.ensures.out_after in
    let e : length cells ≡ n = ap length f ∙ length-cells ticked (λ (x : Adsr). (ticked x).level_q8) n l.a in
    let p : put_mid l.k (l.k + n - l.k) l.out cells ≡ sets l.out l.k (given ticked level_after n l.a) = part-sets l.out l.k n h cells e ∙ ap (sets l.out l.k) f in (
      omega (arith, h, c.loop-k.auto.out, c.loop-k-test.true, c.ticks_within-n.ensures.0),
      c.tick-a.ensures.valid,
      rw c.tick-a.ensures.same (wrote-more _ _ l.invariant.2 (rw zero-add (wrote_one _ _ (record { state = s; stored = p })))),
    )

pub returns-clause-out_after : goal.returns-clause-out_after
returns-clause-out_after c =
    let e : c.loop-k.k ≡ length c.args.out.now = omega (arith, c.loop-k.invariant.0, c.loop-k.auto.out, c.loop-k-test.false) in
    wrote-all (length c.args.out.now) (rw e at c.loop-k.invariant.2) refl
