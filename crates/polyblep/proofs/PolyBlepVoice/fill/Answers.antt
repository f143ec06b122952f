-- `polyblep::PolyBlepVoice::fill` meets its contract: an inactive voice gives none.
use Rattle.std.proofs.Common.{min, ap}
use Rattle.laws.proofs.Made.{made}
use Rattle.tone.proofs.Sounding.{block-rest}
use Rattle.polyblep.proofs.Runs.{blep_at, blep-counted, valid-after}
use Rattle.polyblep.proofs.PolyBlepVoice.fill.Goals as goal

pub returns-then-self : goal.returns-then-self
returns-then-self c = rw (← c.block_len.ensures) c.fill_active.ensures

pub returns-else-self : goal.returns-else-self
returns-else-self c =
    let a = c.args in
    let v = a.self in
    let b = block-rest (blep-counted v) (min a.len 256) v.osc.phase v.samples_left a.out.now (ap (blep_at v v.osc.phase v.samples_left) c.if-self.false) in
    record { voice = made b.same (valid-after (min a.len 256) v c.requires); given = b.given }
