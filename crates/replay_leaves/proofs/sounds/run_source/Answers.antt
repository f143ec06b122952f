-- `replay_leaves::sounds::run_source` meets its contract: five texts, one after the other, of the source that the requests before left.
use mathlib.Core.Path.{sym}
use native.Mathlib.Omega.{arith}
use Rattle.hex_digits.proofs.Texts.{then, part, whole}
use Rattle.replay_leaves.proofs.sounds.run_source.Goals as goal

pub returns : goal.returns
returns c =
    rw (sym c.three_at.ensures, sym c.source_at.ensures.same, sym c.skipped-source.ensures.same, sym c.printed_at.ensures.0, sym c.requests-to.ensures.made.same, sym c.long_at.ensures, sym c.carrier_hz-carrier.ensures, sym c.unwrap_or.ensures)
    (whole (then (then (then (then (part c.put_line-n.ensures.0) c.requests-to.ensures.laid) c.put_source-state.ensures.0) c.put-end.ensures.0) c.end_line.ensures.0)
    (omega (arith, c.put_line-n.ensures.1, c.printed_at.ensures.1, c.requests-to.ensures.next_bound, c.put_source-state.ensures.1, c.put-end.ensures.1, c.end_line.ensures.1)))
