-- The answer of all is the answer of those that are left, with the lowest so far. Assumes nothing.
use Prim.Native.Nat.{◌<◌}
use mathlib.Core.Path.{sym, ◌∙◌}
use native.Mathlib.Omega.{arith}
use lib.ListN.{length}
use Rattle.ranking.proofs.Scans.{lowest-scan}
use Rattle.allocate.specs.Allocation.{place_of, told_place, priority_of}
use Rattle.allocate.proofs.Searches.{lowest-here, lowest-on, lowest-done}
use Rattle.allocate.proofs.first_lowest.Goals as goal

pub loop-i-init : goal.loop-i-init
loop-i-init c = (omega arith, sym (lowest-scan place_of priority_of _ _))

pub loop-i-preserved : goal.loop-i-preserved
loop-i-preserved c =
    let h : c.loop-i.i < length c.args.voices.now = omega arith in
    elim c.if-v-lowest.branch [
      | goal.then-v-lowest w ↦ (omega arith, c.loop-i.invariant.1 ∙ lowest-here priority_of _ _ _ _ _ h w.if-v-lowest.true ∙ rw (w.best-is, w.lowest-is))
      | goal.else-v-lowest w ↦ (omega arith, c.loop-i.invariant.1 ∙ lowest-on priority_of _ _ _ _ _ h w.if-v-lowest.false ∙ rw (w.best-is, w.lowest-is))
    ]

pub returns : goal.returns
returns c = sym (c.loop-i.invariant.1 ∙ lowest-done priority_of (told_place c.loop-i.best) c.loop-i.lowest c.args.voices.now c.loop-i.i (omega arith))
