-- `replay_dump::put_voices` meets its contract: the lines that are left to write are those that there were.
use Prim.Native.Nat.{◌+◌, ◌*◌, ◌≤◌}
use lib.ListN.{drop}
use Rattle.hex_digits.proofs.Texts.{Left}
use Rattle.replay_dump.specs.Dumps.{voice_lines}
use Rattle.replay_dump.proofs.put_voices.Given as goal

abbrev pub invariant-loop-v : goal.invariant-loop-v
invariant-loop-v l = record { place : l.next ≤ l.at + 337 * l.v-index; left : Left l.initial.out l.at (voice_lines l.voices) l.out l.next (voice_lines (drop l.v-index l.voices)) }
