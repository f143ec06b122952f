-- `replay_dump::put_settings` meets its contract: two texts, one after the other.
use mathlib.Core.Path.{refl}
use native.Mathlib.Omega.{arith}
use Rattle.hex_digits.proofs.Texts.{shown-four, then}
use Rattle.replay_dump.proofs.put_settings.Goals as goal

pub returns : goal.returns
returns c =
    let b = c.bank_fields-bank.ensures in
    let first = shown-four refl c.policy_number.ensures b.0 b.1 c.put_four-n.ensures.0 in
    let second = shown-four b.2 refl refl c.mode_number.ensures c.put_four.ensures.0 in
    (then first second, omega (arith, c.put_four.ensures.1, c.put_four-n.ensures.1))
