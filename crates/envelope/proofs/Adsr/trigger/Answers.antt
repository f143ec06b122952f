-- The test of the length is the definition's. Assumes nothing.
use borrow.Author.Tests.{eq-eqb, ne_eqb}
use Rattle.envelope.specs.Adsrs.{triggered}
use Rattle.laws.proofs.Made.{made}
use Rattle.envelope.proofs.Laws.{valid-triggered}
use Rattle.envelope.proofs.Adsr.trigger.Goals as goal

pub returns-then-length-eq0 : goal.returns-then-length-eq0
unfolding triggered
returns-then-length-eq0 c =
    made (rw (← c.ms_to_samples-length.ensures, eq-eqb _ _ c.if-length-eq0.true, c.begin_decay.ensures))
    (valid-triggered c.requires)

pub returns-else-length-eq0 : goal.returns-else-length-eq0
unfolding triggered
returns-else-length-eq0 c =
    made (rw (← c.ms_to_samples-length.ensures, ne_eqb _ _ c.if-length-eq0.false))
    (valid-triggered c.requires)
