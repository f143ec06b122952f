-- `evacuation::Pattern::phase_samples` meets its contract: a phase's samples are the list's.
use Rattle.std.proofs.Common.{◌≡◌}
use Rattle.evacuation.proofs.Cycles.{lasts}
use Rattle.evacuation.proofs.Pattern.phase_samples.Goals as goal

pub returns-clause-samples : goal.returns-clause-samples
returns-clause-samples c =
    let v : c.self.inside.sample_rate_hz ≡ c.args.self = c.self.view_is in
    rw (lasts, c.from.ensures, c.phase_ms.ensures, v)
