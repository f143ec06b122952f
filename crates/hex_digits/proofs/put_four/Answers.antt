-- `hex_digits::put_four` meets its contract: four texts, one after the other.
use Rattle.hex_digits.proofs.Texts.{length-four_of, placed, then}
use Rattle.hex_digits.proofs.put_four.Goals as goal

pub returns : goal.returns
returns c =
    let w = then (then (then c.put-n1.ensures.0 c.put-n2.ensures.0) c.put-n3.ensures.0) c.put.ensures.0 in
    (w, placed 64 (length-four_of _ _ _ _) w)
