-- `voice::Voice::rest` meets its contract: the envelope's ticks, and the source that is kept at the last.
use Prim.Native.Nat.{◌<◌, min}
use mathlib.Core.Path.{◌≡◌, refl, sym}
use native.Mathlib.Omega.{arith}
use Rattle.laws.specs.Runs.{after}
use Rattle.laws.proofs.Made.{made}
use Rattle.voice.proofs.Cells.{rested-at}
use Rattle.voice.proofs.Runs.{voice-ticks, valid-ticks}
use Rattle.voice.proofs.Voice.rest.Goals as goal

pub returns-then-len-eq0 : goal.returns-then-len-eq0
unfolding after
returns-then-len-eq0 c = let e : min c.args.len 256 ≡ 0 = omega arith in rw e (made refl c.requires)

pub returns : goal.returns
returns c =
    let v = c.args.self in
    let n = min c.args.len 256 in
    let h : 0 < n = omega (arith, c.if-len-eq0.false) in
    made
    (rw (c.keep-source.ensures, c.is_active.ensures, c.levels-adsr.ensures.made.same, ← rested-at v.source v.adsr n h) (sym (voice-ticks n v)))
    (valid-ticks n v c.requires)
