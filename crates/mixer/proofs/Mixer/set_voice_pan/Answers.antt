-- The voice with the pan stored in its place, or nothing. Assumes nothing.
use mathlib.Core.Path.{refl, sym}
use Rattle.laws.proofs.Made.{made}
use Rattle.mixer.specs.Mixers.{panned}
use Rattle.mixer.proofs.Laws.{read_none, panned-there, valid-panned}
use Rattle.mixer.proofs.Mixer.set_voice_pan.Goals as goal

pub returns-then-idx-self : goal.returns-then-idx-self
returns-then-idx-self c =
    let h = c.if-idx-self.true in
    let m = c.args.self in
    made (rw c.set_pan_q8.ensures (sym (panned-there m c.args.idx c.args.pan_q8 _ c.requires h))) (valid-panned m c.args.idx c.args.pan_q8 c.requires h)

pub returns-else-idx-self : goal.returns-else-idx-self
unfolding panned
returns-else-idx-self c = rw (read_none c.args.self c.args.idx c.if-idx-self.false) (made refl c.requires)
