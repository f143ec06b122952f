-- `exports_replay::sound` meets its contract: what is left of the run, from each line on, is the run. The measure is what is left of the script.
use mathlib.Core.List.{List}
use Prim.Native.Nat.{ℕ, ◌≤◌}
use lib.IntN.{ℤ}
use lib.ListN.{length}
use Rattle.replay_session.specs.Runs.{Run}
use Rattle.render_sounds.specs.Sounds.{sound_of}
use Rattle.exports_replay.proofs.Going.{Going}
use Rattle.exports_replay.proofs.sound.Given as goal

abbrev pub cells : Run → List ℕ → List ℤ
cells = sound_of

abbrev pub invariant-loop-good : goal.invariant-loop-good
invariant-loop-good l = Going cells l.script l.initial.out l.out l.len l.good l.s l.left × (l.len ≤ 18446744073709551615)

abbrev pub decreases-loop-good : goal.decreases-loop-good
decreases-loop-good l = length l.left
