-- `replay_leaves::voices::run_voice` meets its contract: five texts, one after the other, of the voice that the frames before left.
use mathlib.Core.Path.{sym}
use native.Mathlib.Omega.{arith}
use Rattle.hex_digits.proofs.Texts.{then, part, whole}
use Rattle.replay_leaves.proofs.voices.run_voice.Goals as goal

pub returns : goal.returns
returns c =
    rw (sym c.held_at-held.ensures.same, sym c.byte_at.ensures, sym c.printed_at.ensures.0, sym c.put_frames-to.ensures.made.same, sym c.is_audible.ensures, sym c.flag_number.ensures)
    (whole (then (then (then (then (part c.put_line-n.ensures.0) c.put_frames-to.ensures.laid) c.put_voice-state.ensures.0) c.put-end.ensures.0) c.end_line.ensures.0)
    (omega (arith, c.put_line-n.ensures.1, c.put_frames-to.ensures.next_bound, c.put_voice-state.ensures.1, c.put-end.ensures.1, c.end_line.ensures.1)))
