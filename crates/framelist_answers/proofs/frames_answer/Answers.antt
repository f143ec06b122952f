-- What is left of the run, from each turn on, is the run. Assumes nothing.
use mathlib.Core.Path.{refl, ap}
use native.Mathlib.Omega.{arith}
use Prim.Native.Nat.{ℕ}
use Rattle.hex_digits.proofs.Texts.{shown, then}
use Rattle.sounder.specs.Sounders.{After}
use Rattle.framelist_answers.specs.Lines.{next, duty_line}
use Rattle.framelist_answers.proofs.Frames.{going_start, going-turn, going_end, going-same}
use Rattle.framelist_answers.proofs.frames_answer.Goals as goal

pub loop-preserved : goal.loop-preserved
loop-preserved c =
    let v = c.loop.invariant in
    let same = c.tick-duty.ensures.same in
    let put = rw c.from.ensures at c.put-digits.ensures.0 in (
      going-turn next duty_line c.loop-test.true (ap (λ (x : After ℕ). x.lined) same) v.0
          (then (shown 4 (ap (λ (x : After ℕ). x.gave) same) put) c.end_line-at.ensures.0),
      omega (arith, v.1, c.put-digits.ensures.1, c.end_line-at.ensures.1),
    )

pub returns : goal.returns
returns c =
    let l = c.loop in
    let z = c.loop-test.false in
    record {
      laid = going_end next duty_line z (omega (arith, l.invariant.1, c.ranges.count)) l.invariant.0;
      more = refl;
      lined = going-same next duty_line z l.invariant.0;
    }

pub loop-init : goal.loop-init
loop-init c = (going_start next duty_line _ _ _, omega arith)
