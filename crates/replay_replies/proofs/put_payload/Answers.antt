-- `replay_replies::put_payload` meets its contract: the number and the part, whose length has two bytes.
use mathlib.Core.Path.{ap}
use native.Mathlib.Omega.{arith}
use lib.ListN.{length}
use Rattle.hex_digits.proofs.Texts.{length-hex_of}
use Rattle.replay_cells.specs.Cells.{byte_text}
use Rattle.replay_cells.proofs.Turns.{numbered-all}
use Rattle.replay_box.specs.Boxes.{is_present, mixer_of}
use Rattle.replay_replies.proofs.Payload.{part-short, payload-laid}
use Rattle.replay_replies.proofs.put_payload.Goals as goal

pub returns : goal.returns
returns c =
    let a = c.args in
    let short = part-short (mixer_of a.e.now).bank a.bytes.now c.long_at-offset.result c.wide_at-len.result in
    let all = numbered-all byte_text 2 c.payload_number-number.result 2 (λ x. length-hex_of 2 x) c.payload-part.result.now (omega (arith, ap length c.payload-part.ensures, short, c.wide_at-len.type_inv)) c.put_cells.ensures in
    payload-laid (is_present a.e.now) (mixer_of a.e.now).bank a.l.now a.bytes.now c.long_at-offset.ensures c.wide_at-len.ensures c.payload_number-read.ensures c.payload_number-number.ensures c.payload-part.ensures all
