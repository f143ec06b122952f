-- `replay_dump::put_voices` meets its contract: the lines that are left to write are those that there were.
use mathlib.Core.Path.{◌≡◌}
use native.Mathlib.Omega.{arith}
use lib.ListN.{length, take}
use lib.Seq.{length-take-le}
use Rattle.hex_digits.proofs.Texts.{then}
use Rattle.replay_dump.proofs.Lines.{lines-turn, lines_end}
use Rattle.replay_dump.proofs.put_voices.Goals as goal

pub loop-v-preserved : goal.loop-v-preserved
loop-v-preserved c =
    let l = c.loop-v in
    let w = then c.put_voice-end.ensures.0 c.end_line-next.ensures.0 in
    record {
      place = omega (arith, c.put_voice-end.ensures.1, c.end_line-next.ensures.1, l.invariant.place);
      left = lines-turn l.v-index (take c.args.m.n c.args.m.voices) _ c.loop-v-test.true l.invariant.left w;
    }

pub returns : goal.returns
returns c =
    let l = c.loop-v in
    let m = c.args.m in
    let few : length (take m.n m.voices) ≡ m.n = length-take-le m.n m.voices (omega (arith, c.requires.few, c.requires.full)) in
    (lines_end l.v-index (take m.n m.voices) c.loop-v-test.false l.invariant.left, omega (arith, l.invariant.place, c.requires.few, l.auto.v-index-end))
