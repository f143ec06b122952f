-- `exports_replay::answers` meets its contract: what is left of the run, from each line on, is the run. The measure is what is left of the script.
use mathlib.Core.List.{List}
use Prim.Native.Nat.{ℕ, ◌≤◌}
use lib.ListN.{length}
use Rattle.replay_session.specs.Runs.{Run}
use Rattle.replay_session.specs.Sessions.{session_answer}
use Rattle.exports_replay.proofs.Going.{Going}
use Rattle.exports_replay.proofs.answers.Given as goal

abbrev pub text : Run → List ℕ → List ℕ
text s l = (session_answer s l).text

abbrev pub invariant-loop-good : goal.invariant-loop-good
invariant-loop-good l = Going text l.script l.initial.out l.out l.len l.good l.s l.left × (l.len ≤ 18446744073709551615)

abbrev pub decreases-loop-good : goal.decreases-loop-good
decreases-loop-good l = length l.left
