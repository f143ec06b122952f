-- A reply's text from place 0 on is the answer. Assumes nothing.
use mathlib.Core.Path.{◌≡◌, refl}
use mathlib.Core.Bool.{Bool, true, false, cond, ◌&&◌}
use mathlib.Core.List.{List}
use Prim.Native.Nat.{ℕ, ◌≤◌}
use native.Mathlib.Omega.{arith}
use borrow.Author.Tests.{leb-true}
use lib.Dec.{leb}
use lib.ListN.{length}
use Rattle.hex_digits.specs.Hex.{all_digits, byte_at, Wrote}
use Rattle.hex_digits.proofs.Texts.{front}
use Rattle.replay_leaves.specs.declared.Reply.{Reply}
use Rattle.replay_leaves.specs.declared.Reply.TheVariants.{Bad, Duties}
use Rattle.replay_leaves.specs.Replies.{reply_for, reply_of}
use Rattle.replay_leaves.specs.Answers.{text_of, reply_text, goes_on, Answers}

pub done : {l before after : List ℕ} {r : Reply} {n : ℕ} → length before ≡ 262144 → reply_of l ≡ r → Wrote before 0 (text_of r l) after n → Answers l before after (record { len = n; more = goes_on r })
unfolding reply_text
done h e w = let f = front h w in record { text = rw e f.stands; len = rw e f.count; more = rw e }

-- a run over samples is of a line that is not too long
pub short : (l : List ℕ) → reply_of l ≡ Duties → length l ≤ 8194
unfolding reply_of
short l e = by-test (leb (length l) 8194) refl e
  where
    by-test : (t : Bool) → leb (length l) 8194 ≡ t → cond (t && all_digits l) (reply_for (byte_at l 0) l) Bad ≡ Duties → length l ≤ 8194
    by-test true h e = leb-true (length l) 8194 h
    by-test false h e = let z : ◌≡◌ {A = ℕ} 0 1 = cc in omega arith
