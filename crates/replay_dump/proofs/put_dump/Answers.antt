-- `replay_dump::put_dump` meets its contract: four texts, one after the other.
use native.Mathlib.Omega.{arith}
use Rattle.hex_digits.proofs.Texts.{then, whole}
use Rattle.replay_dump.specs.Dumps.{dump_text}
use Rattle.replay_dump.proofs.put_dump.Goals as goal

pub returns : goal.returns
unfolding dump_text
returns c =
    whole (then (then (then c.put_settings-settings.ensures.0 c.put_running-running.ensures.0) c.end_line-end.ensures.0) c.put_voices.ensures.0)
    (omega (arith, c.put_settings-settings.ensures.1, c.put_running-running.ensures.1, c.end_line-end.ensures.1, c.put_voices.ensures.1))
