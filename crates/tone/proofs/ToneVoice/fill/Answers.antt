-- `tone::ToneVoice::fill` meets its contract: an inactive oscillator gives none.
use Rattle.std.proofs.Common.{min, ap}
use Rattle.tone.proofs.Laws.{tone_at, tone-counted}
use Rattle.tone.proofs.Sounding.{block-rest}
use Rattle.tone.proofs.ToneVoice.fill.Goals as goal

pub returns-then-self : goal.returns-then-self
returns-then-self c = rw (← c.block_len.ensures) c.fill_active.ensures

pub returns-else-self : goal.returns-else-self
returns-else-self c =
    let a = c.args in
    let v = a.self in
    let b = block-rest (tone-counted v) (min a.len 256) v.phase v.samples_left a.out.now (ap (tone_at v v.phase v.samples_left) c.if-self.false) in
    record { voice = b.same; given = b.given }
