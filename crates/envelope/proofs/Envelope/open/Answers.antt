-- The test of the rate is the definition's. Assumes nothing.
use borrow.Author.Tests.{lt-ltb, le-ltb}
use Rattle.envelope.specs.Alone.{opened}
use Rattle.envelope.proofs.Laws.{valid-idle}
use Rattle.envelope.proofs.Envelope.open.Goals as goal

pub returns-then-sample_rate_hz-gt65537 : goal.returns-then-sample_rate_hz-gt65537
unfolding opened
returns-then-sample_rate_hz-gt65537 c = record { same = rw (lt-ltb 65537 _ c.if-sample_rate_hz-gt65537.true); valid = tt }

pub returns : goal.returns
unfolding opened
returns c =
    record {
      same = rw (le-ltb 65537 _ c.if-sample_rate_hz-gt65537.false, c.new.ensures);
      valid = rw c.new.ensures (valid-idle c.if-sample_rate_hz-gt65537.false);
    }
