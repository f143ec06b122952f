-- What passes each test is a fresh state. Assumes nothing.
use borrow.Author.Tests.{le-ltb}
use Rattle.laws.proofs.Made.{made}
use Rattle.mixer.specs.Mixers.{opened}
use Rattle.mixer.proofs.Laws.{valid-fresh}
use Rattle.mixer.proofs.Mixer.open.Goals as goal

pub returns : goal.returns
unfolding opened
returns c =
    let few = c.if-n-gt16.false in
    let rate = c.if-config-gt65537.false in
    let period = c.if-config-lt2.false in
    rw (le-ltb _ _ few, le-ltb _ _ rate, le-ltb _ _ period)
    (made (rw c.fresh.ensures) (valid-fresh _ _ _ few rate period))
