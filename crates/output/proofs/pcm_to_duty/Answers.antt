-- `output::pcm_to_duty` meets its contract. Each value on the way is small, and what is held to 1..period − 1 is a u16.
use Rattle.std.proofs.Common.{rules, arith, ◌-◌, pos, ◌≤ℤ◌, ◌≡◌, ap, ◌∙◌, nat_abs, w8, w16, w32, Fits}
use Rattle.std.proofs.lemmas.Int.{ints, to_z-of_z}
use Rattle.laws.proofs.Signed.{pos-sub}
use Rattle.output.specs.Duty.{duty}
use Rattle.output.proofs.Laws.{duty-fits, clamp-held_to}
use Rattle.output.proofs.pcm_to_duty.Goals as goal

pub returns : goal.returns
unfolding duty
returns c =
    let v : c.period.inside.counts ≡ c.args.period = c.period.view_is in
    let f : Fits w16 c.period.inside.counts = search rules in
    let d = duty-fits c.args.pcm c.args.period c.ranges.pcm (rw v at f) in
    let s = c.from.ensures ∙ to_z-of_z w8 _ c.ranges.pcm in
    let e = rw (
      c.from-counts.ensures,
      v,
      s,
      to_z-of_z w32 _ d.whole,
      to_z-of_z w32 _ d.half,
      to_z-of_z w32 _ d.less,
      to_z-of_z w32 _ d.wide,
      to_z-of_z w32 _ d.prod,
      to_z-of_z w32 _ d.quot,
      to_z-of_z w32 _ d.sum,
      pos-sub c.args.period 1 (omega (arith, c.period.invariant)),
      to_z-of_z w32 _ d.top,
    ) at c.clamp.ensures.value in
    let t : pos 1 ≤ℤ pos (c.args.period - 1) = omega (arith, ints, c.period.invariant) in
    rw (to_z-of_z w32 _ (record { sfits = c.clamp.type_inv }), e) (ap nat_abs (clamp-held_to _ _ _ t))
