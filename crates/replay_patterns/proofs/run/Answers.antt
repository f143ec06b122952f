-- `replay_patterns::run` meets its contract: what is left to write of the samples is what there was.
use mathlib.Core.Path.{◌≡◌, sym, ap, ◌∙◌}
use Prim.Native.Nat.{◌≤◌, ◌<◌}
use native.Mathlib.Omega.{arith}
use lib.ListN.{length, get_or}
use Rattle.hex_digits.proofs.Texts.{left-start, shown, part, whole}
use Rattle.replay_cells.specs.Cells.{byte_text}
use Rattle.replay_cells.proofs.Turns.{going-turn, going_end}
use Rattle.evacuation.specs.Pattern.{byte_of, samples_from}
use Rattle.evacuation.proofs.Cycles.{run_length, run-cell}
use Rattle.replay_patterns.proofs.Bytes.{as_byte}
use Rattle.replay_patterns.proofs.run.Goals as goal

pub loop-i-init : goal.loop-i-init
loop-i-init c = (left-start _ _ _, omega arith)

pub loop-i-preserved : goal.loop-i-preserved
loop-i-preserved c =
    let rate = c.args.p in
    let first = c.from-first.result in
    let count = c.from-count.result in
    let h : c.loop-i.i < count = c.loop-i-test.true in
    let b : c.loop-i.i < length (samples_from rate first count) = rw run_length h in
    let e : c.from.result ≡ get_or (samples_from rate first count) c.loop-i.i 0 =
    c.from.ensures ∙ as_byte _ ∙ ap byte_of c.sounds.ensures ∙ sym (run-cell rate first count c.loop-i.i h) in
    (going-turn byte_text (samples_from rate first count) c.loop-i.i 0 b c.loop-i.invariant.0 (shown 2 e c.put-next.ensures.0), omega (arith, c.loop-i.invariant.1, c.put-next.ensures.1))

pub returns : goal.returns
returns c =
    let rate = c.args.p in
    let w = c.from-count in
    let f = c.from-first in
    let z : w.result ≤ c.loop-i.i = c.loop-i-test.false in
    let k : length (samples_from rate f.result w.result) ≤ c.loop-i.i = rw run_length z in
    let p = c.put_line-next.ensures in
    rw (← c.long_at.ensures, ← c.wide_at.ensures, ← f.ensures, ← w.ensures)
    (whole (going_end byte_text (samples_from rate f.result w.result) c.loop-i.i k (part p.0) c.loop-i.invariant.0 c.end_line.ensures.0)
    (omega (arith, p.1, c.loop-i.invariant.1, w.type_inv, c.end_line.ensures.1)))
