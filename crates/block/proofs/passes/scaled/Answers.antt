-- `block::passes::scaled` meets its contract. Each value on the way fits.
use Rattle.laws.proofs.Signed.{signed}
use Rattle.fixed.proofs.Laws.{Gained, gained-fits}
use Rattle.block.proofs.passes.scaled.Goals.{Start}
use Rattle.block.proofs.passes.scaled.Goals as goal

fit_c : (c : Start) → Gained c.args.sample c.args.gain
fit_c c = gained-fits _ _ c.ranges.sample c.requires

pub overflow_cast-result : goal.overflow_cast-result
overflow_cast-result c = let f = fit_c c in search signed

pub overflow_cast-result-2 : goal.overflow_cast-result-2
overflow_cast-result-2 c = let f = fit_c c in search signed

pub overflow_mul-result : goal.overflow_mul-result
overflow_mul-result c = let f = fit_c c in search signed

pub returns : goal.returns
returns c = let f = fit_c c in record { value = search signed; small = search signed }
