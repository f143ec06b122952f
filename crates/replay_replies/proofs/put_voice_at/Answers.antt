-- `replay_replies::put_voice_at` meets its contract: the voice's fields and the line's end, or the line's end alone.
use mathlib.Core.Path.{sym, ◌∙◌}
use native.Mathlib.Omega.{arith}
use Rattle.hex_digits.proofs.Texts.{then, whole}
use Rattle.replay_replies.proofs.Payload.{read-valid}
use Rattle.replay_replies.proofs.put_voice_at.Goals as goal

pub put_voice-end-requires : goal.put_voice-end-requires
put_voice-end-requires c = read-valid c.args.m c.args.i c.requires (sym c.voice.ensures ∙ c.in-Some.is)

pub returns-in-Some : goal.returns-in-Some
returns-in-Some c =
    rw (sym c.voice.ensures, c.in-Some.is)
    (whole (then c.put_voice-end.ensures.0 c.end_line.ensures.0) (omega (arith, c.put_voice-end.ensures.1, c.end_line.ensures.1)))

pub returns-in-None : goal.returns-in-None
returns-in-None c =
    rw (sym c.voice.ensures, c.in-None.is)
    (whole c.end_line-in-None.ensures.0 (omega (arith, c.end_line-in-None.ensures.1)))
