-- Some cells of a block that are stored as a part of it. Assumes nothing.
use Rattle.std.proofs.Common.{arith, ◌≡◌, ◌∙◌, sym, ap, ℕ, ◌+◌, ◌-◌, ◌≤◌, List, ◌++◌, length, take, append_assoc, append-nil}
use borrow.Rule.Slice.PartMut.{mid_of, post_of, mid_len, Post-is}
use lib.ListN.{drop_of_length-le}
use lib.Seq.{sets, sets-eq, length-take-le}
use Rattle.laws.proofs.Stores.{Wrote, cells_of, length-cells, sets-front}

module _ {A : Type 0} (xs : List A) (at n : ℕ) (h : at + n ≤ length xs) where
  pub part-length : length (mid_of at (at + n - at) xs) ≡ n
  part-length = mid_len at (at + n) xs h ∙ omega arith

  pub part-sets : (vs : List A) → length vs ≡ n → take at xs ++ (vs ++ post_of at (at + n - at) xs) ≡ sets xs at vs
  part-sets vs e = rw (Post-is at (at + n) xs (omega arith), ← append_assoc) (sym (sets-eq vs xs at (omega (arith, e)) ∙ rw e))

-- what fills a list is all of it
pub wrote-all : {State A : Type 0} {step : State → State} {gives : State → A} {s r : State} {before cells : List A} (n : ℕ)
    → Wrote step gives s before 0 n r cells → length before ≡ n → cells ≡ cells_of step gives n s
wrote-all {step = step} {gives = gives} {s = s} {before = before} n w e =
    w.stored
    ∙ sets-front before (cells_of step gives n s) n (length-cells step gives n s) (omega (arith, e))
    ∙ rw (drop_of_length-le before {i = n} (omega (arith, e))) (append-nil _)

-- what is lent from the front on, filled
pub front-sets : {A : Type 0} (xs : List A) (n : ℕ) → n ≤ length xs → (vs : List A) → length vs ≡ n → vs ++ post_of 0 n xs ≡ sets xs 0 vs
front-sets xs n h vs e = sym (sets-front xs vs n e h)

pub front-filled : {State A : Type 0} {step : State → State} {gives : State → A} {s r : State} (xs : List A) (n : ℕ) {k : ℕ} {cells : List A}
    → n ≤ length xs → k ≡ n → Wrote step gives s (take n xs) 0 k r cells → Wrote step gives s xs 0 n r (cells ++ post_of 0 n xs)
front-filled {step = step} {gives = gives} {s = s} xs n h e w =
    let v = rw e at w in
    let f = wrote-all n v (length-take-le n xs h) in
    record { state = v.state; stored = front-sets xs n h _ (ap length f ∙ length-cells step gives n s) ∙ ap (sets xs 0) f }
