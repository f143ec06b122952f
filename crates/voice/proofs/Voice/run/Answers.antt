-- `voice::Voice::run` meets its contract: the envelope's levels, the source's cells shaped by them, and the source that is
-- kept at the last tick.
use Prim.Native.Nat.{◌<◌, min}
use mathlib.Core.Path.{◌≡◌}
use native.Mathlib.Omega.{arith}
use Rattle.voice.proofs.Requests.{block-short}
use Rattle.voice.proofs.Cells.{voice-block, empty_block}
use Rattle.voice.proofs.Voice.run.Goals as goal

pub returns-then-len-eq0 : goal.returns-then-len-eq0
returns-then-len-eq0 c =
    let e : min c.args.len 256 ≡ 0 = omega arith in
    rw e (empty_block c.args.whole c.args.self c.args.samples.now c.requires)

pub shape-requires : goal.shape-requires
shape-requires c = omega (arith, block-short c.fill-filled.ensures)

pub lasting-requires : goal.lasting-requires
lasting-requires c = omega (arith, block-short c.fill-filled.ensures)

pub returns : goal.returns
returns c =
    let v = c.args.self in
    let n = min c.args.len 256 in
    let k : 0 < n = omega (arith, c.if-len-eq0.false) in
    rw c.shape.ensures
    (voice-block c.args.whole v c.fill-filled.ensures _ c.requires k c.levels-adsr.ensures.made.same
    (rw (c.keep-source.ensures, c.lasting.ensures, c.is_active.ensures, c.block_len-n.ensures)) c.levels-adsr.ensures.out_after)
