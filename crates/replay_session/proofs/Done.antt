-- An answer laid from place 0 on is the answer. Assumes nothing.
use mathlib.Core.Path.{◌≡◌}
use mathlib.Core.List.{List}
use Prim.Native.Nat.{ℕ}
use lib.ListN.{length}
use Rattle.hex_digits.proofs.Texts.{front}
use Rattle.replay_leaves.specs.declared.Answered.{Answered}
use Rattle.replay_session.specs.Runs.{Run}
use Rattle.replay_session.specs.Sessions.{Answer, Does, Answers}

pub done : {a : Answer} {before after : List ℕ} {s : Run} {r : Answered} → length before ≡ 262144 → Does a before after s r → Answers a before after s r
done h t = let f = front h t.laid.laid in record { text = f.stands; len = f.count; more = t.laid.more; run = t.run }
