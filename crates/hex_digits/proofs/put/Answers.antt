-- `hex_digits::put` meets its contract: what is left to lay of the rest is what there was to lay.
use native.Mathlib.Omega.{arith}
use Prim.Native.Nat.{◌+◌, ◌-◌, min}
use mathlib.Core.Path.{◌≡◌}
use Rattle.hex_digits.proofs.Texts.{put_in, put-out, put-end, laid_none}
use Rattle.hex_digits.proofs.put.Goals as goal

pub returns-then-at-ge262144 : goal.returns-then-at-ge262144
returns-then-at-ge262144 c = (laid_none _ _ _ c.if-at-ge262144.true, omega arith)

pub loop-place-preserved : goal.loop-place-preserved
loop-place-preserved c =
    let l = c.loop-place in
    let a = c.args in
    let h = c.loop-place-test.true in (
      omega arith,
      elim c.if-place-lt262144.branch [
        | goal.then-place-lt262144 w ↦ rw (w.out-is, w.digit_char.ensures) (put_in a.out.now l.out a.at a.digits a.value l.place l.rest h l.invariant.1 w.if-place-lt262144.true)
        | goal.else-place-lt262144 w ↦ rw w.out-is (put-out a.out.now l.out a.at a.digits a.value l.place l.rest h l.invariant.1 w.if-place-lt262144.false)
      ],
    )

pub returns : goal.returns
returns c =
    let l = c.loop-place in
    let a = c.args in
    let e : c.min.result ≡ a.at + min (262144 - a.at) a.digits = omega (arith, c.min.ensures, c.from.ensures, c.if-at-ge262144.false) in
    (put-end _ _ _ _ _ l.place l.rest c.loop-place-test.false l.invariant.1 e, omega arith)
