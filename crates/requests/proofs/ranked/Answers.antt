-- One rank after another. Assumes nothing.
use mathlib.Core.Path.{◌≡◌, sym, ◌∙◌}
use native.Mathlib.Omega.{arith}
use lib.ListN.{length}
use Rattle.requests.proofs.Beside.{ranked-step, ranked-end}
use Rattle.requests.proofs.ranked.Goals.{Start}
use Rattle.requests.proofs.ranked.Goals as goal

-- as many keys as marks
sixteen : (c : Start) → length c.args.keys ≡ length c.args.rules
sixteen c = c.well_formed.1.0.1.0.1 ∙ sym c.well_formed.0.1.0.1

pub loop-i-preserved : goal.loop-i-preserved
loop-i-preserved c =
    let a = c.args in
    (omega arith, ranked-step a.keys a.rules c.loop-i.k-items c.loop-i.i (sixteen (goal.at.loop-i-preserved c).Start) c.loop-i.invariant.1 _ c.rank-k.result (omega (arith, c.well_formed.0.1.0.1)) c.rank-k.ensures)

pub returns : goal.returns
returns c =
    let a = c.args in
    ranked-end a.keys a.rules c.loop-i.k-items c.loop-i.i (sixteen (goal.at.returns c).Start) c.loop-i.invariant.1 (omega (arith, c.well_formed.0.1.0.1))
