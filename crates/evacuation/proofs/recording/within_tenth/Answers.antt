-- `evacuation::within_tenth` meets its contract: nine to eleven tenths.
use Rattle.std.proofs.Common.{sym}
use Rattle.evacuation.proofs.Tenths.{within-above, within-test}
use Rattle.evacuation.proofs.recording.within_tenth.Goals as goal

pub returns-then-count-nominal : goal.returns-then-count-nominal
returns-then-count-nominal c =
    let h = rw (c.from.ensures, c.from-2.ensures, c.phase_ms.ensures) at c.if-count-nominal.true in
    sym (within-above _ c.args.sample_rate_hz c.args.samples h)

pub returns : goal.returns
returns c =
    let h = rw (c.from.ensures, c.from-2.ensures, c.phase_ms.ensures) at c.if-count-nominal.false in
    rw (c.from.ensures, c.from-2.ensures, c.phase_ms.ensures) (within-test _ c.args.sample_rate_hz c.args.samples h)
