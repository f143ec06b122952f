-- `block::passes::leveled` meets its contract: the limiter, then the gain. Each value on the way fits.
use mathlib.Core.Path.{◌≡◌, ap, ◌∙◌}
use mir.Syntax.{w8, w32}
use mir.Val.{SFits}
use mir.ValLaws.{to_z-of_z}
use Rattle.laws.proofs.Signed.{signed}
use Rattle.fixed.specs.Fixed.{limited}
use Rattle.fixed.proofs.Laws.{Gained, gained-fits}
use Rattle.block.proofs.passes.leveled.Goals.{After-soft_limit_i8-s}
use Rattle.block.proofs.passes.leveled.Goals as goal

fit_c : (c : After-soft_limit_i8-s) → Gained c.soft_limit_i8-s.result c.args.gain
fit_c c = gained-fits _ _ (record { sfits = c.soft_limit_i8-s.type_inv }) c.requires

pub returns : goal.returns
returns c =
    let f = fit_c c in
    let s = c.soft_limit_i8-s in
    let b : SFits w8 s.result = record { sfits = s.type_inv } in
    let q : s.result ≡ limited c.args.sum = s.ensures ∙ ap limited (to_z-of_z w32 c.args.sum c.ranges.sum) in
    rw (← q) (search signed)

pub overflow_cast-result : goal.overflow_cast-result
overflow_cast-result c = let f = fit_c c in search signed

pub overflow_cast-result-2 : goal.overflow_cast-result-2
overflow_cast-result-2 c = let f = fit_c c in search signed

pub overflow_mul-result : goal.overflow_mul-result
overflow_mul-result c = let f = fit_c c in search signed

pub overflow_cast-result-3 : goal.overflow_cast-result-3
overflow_cast-result-3 c = let f = fit_c c in search signed
