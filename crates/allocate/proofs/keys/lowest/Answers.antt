-- `allocate::keys::lowest` meets its contract: the answer of all is the answer of those that are left, with the lowest so far. Assumes nothing.
use Prim.Native.Nat.{◌<◌}
use mathlib.Core.Path.{sym, ap, ◌∙◌}
use native.Mathlib.Omega.{arith}
use mathlib.Core.List.{List}
use Prim.Native.Nat.{ℕ}
use lib.ListN.{length, take}
use Rattle.ranking.proofs.Scans.{lowest-scan}
use Rattle.allocate.specs.Allocation.{place_of, told_place}
use Rattle.allocate.specs.Keys.{lowest_key}
use Rattle.allocate.proofs.Keyed.{first-keys}
use Rattle.allocate.proofs.Searches.{lowest-here, lowest-on, lowest-done}
use Rattle.allocate.proofs.keys.lowest.Goals as goal

pub loop-i-init : goal.loop-i-init
loop-i-init c =
    let a = c.args in
    (omega arith, ap (λ (keys : List ℕ). lowest_key keys a.bound) (sym (rw (sym c.min.ensures) at (first-keys a.n a.keys.now))) ∙ sym (lowest-scan place_of (λ r. r) _ _))

pub loop-i-preserved : goal.loop-i-preserved
loop-i-preserved c =
    let h : c.loop-i.i < length (take c.min.result c.args.keys.now) = omega arith in
    elim c.if-r-low.branch [
      | goal.then-r-low w ↦ (omega arith, c.loop-i.invariant.1 ∙ lowest-here (λ r. r) _ _ _ _ _ h w.if-r-low.true ∙ rw (w.best-is, w.low-is))
      | goal.else-r-low w ↦ (omega arith, c.loop-i.invariant.1 ∙ lowest-on (λ r. r) _ _ _ _ _ h w.if-r-low.false ∙ rw (w.best-is, w.low-is))
    ]

pub returns : goal.returns
returns c = sym (c.loop-i.invariant.1 ∙ lowest-done (λ r. r) (told_place c.loop-i.best) c.loop-i.low (take c.min.result c.args.keys.now) c.loop-i.i (omega arith))
