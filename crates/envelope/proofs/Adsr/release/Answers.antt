-- Idle or not, and the length's test, are the definition's. Assumes nothing.
use borrow.Author.Tests.{eq-eqb, ne_eqb}
use Rattle.envelope.specs.Adsrs.{released}
use Rattle.laws.proofs.Made.{made}
use Rattle.envelope.proofs.Laws.{valid-released}
use Rattle.envelope.proofs.Adsr.release.Goals as goal

pub returns-then-length-eq0 : goal.returns-then-length-eq0
unfolding released
returns-then-length-eq0 c =
    made
    (rw (← c.is_active.ensures, c.if-is_active.true, ← c.ms_to_samples-length.ensures, eq-eqb _ _ c.if-length-eq0.true))
    (valid-released c.requires)

pub returns-else-length-eq0 : goal.returns-else-length-eq0
unfolding released
returns-else-length-eq0 c =
    made
    (rw (← c.is_active.ensures, c.if-is_active.true, ← c.ms_to_samples-length.ensures, ne_eqb _ _ c.if-length-eq0.false))
    (valid-released c.requires)

pub returns-else-is_active : goal.returns-else-is_active
unfolding released
returns-else-is_active c = made (rw (← c.is_active.ensures, c.if-is_active.false)) (valid-released c.requires)
