-- `hex_digits::put_line` meets its contract: one text after the other.
use native.Mathlib.Omega.{arith}
use lib.ListN.{length-append}
use Rattle.hex_digits.proofs.Texts.{length-hex_of, then, whole}
use Rattle.hex_digits.proofs.put_line.Goals as goal

pub returns : goal.returns
returns c =
    let p = c.put-n.ensures in
    let e = c.end_line.ensures in
    let w = whole (then p.0 e.0) (omega (arith, p.1, e.1)) in
    (w, omega (arith, simp (length-append, length-hex_of) at w.place))
