-- An answer laid from place 0 on is the answer. Assumes nothing.
use mathlib.Core.Path.{◌≡◌}
use mathlib.Core.List.{List}
use Prim.Native.Nat.{ℕ}
use lib.ListN.{length}
use Rattle.hex_digits.proofs.Texts.{front}
use Rattle.entering.specs.declared.Lined.{Lined}
use Rattle.framelist_answers.specs.Lines.{Answer, Told, Answers}
use Rattle.framelist_answers.specs.declared.Answered.{Answered}

pub done : {a : Answer} {before after : List ℕ} {r : Answered} {s : Lined} → length before ≡ 262144 → Told a before after r s → Answers a before after r s
done h t = let f = front h t.laid in record { text = f.stands; len = f.count; more = t.more; lined = t.lined }
