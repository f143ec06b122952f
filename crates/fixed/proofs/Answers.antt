-- What is heard of answers that stop. Assumes nothing.
use Rattle.std.proofs.Common.{◌≡◌, ℕ, zero, suc, ◌<◌, ◌≤◌, List, [], ◌∷◌, length, get_or, ℤ, pos, refl, arith}
use Rattle.fixed.specs.Answers.{heard, Stops}
use Rattle.std.specs.Prelude.{Option, Some, None}

pub heard-short : (gs : List (Option ℤ)) → length (heard gs) ≤ length gs
unfolding heard
heard-short [] = omega arith
heard-short (Some s ∷ gs) = omega (arith, heard-short gs)
heard-short (None ∷ gs) = omega (arith, heard-short gs)

-- where nothing is heard, no answer is a sample
none-heard : (gs : List (Option ℤ)) → heard gs ≡ [] → (k : ℕ) → get_or gs k None ≡ None
unfolding heard
none-heard [] h k = refl
none-heard (Some s ∷ gs) h k = cc
none-heard (None ∷ gs) h zero = refl
none-heard (None ∷ gs) h (suc k) = none-heard gs h k

-- the k-th answer is the k-th sample heard; after the last of these there is none
pub answer_at_lem : (gs : List (Option ℤ)) → Stops gs → (k : ℕ) → k < length (heard gs) → get_or gs k None ≡ Some (get_or (heard gs) k (pos 0))
unfolding heard
answer_at_lem [] h k l = absurd (omega arith)
answer_at_lem (Some s ∷ gs) h zero l = refl
answer_at_lem (Some s ∷ gs) h (suc k) l = answer_at_lem gs h k (omega arith)
answer_at_lem (None ∷ gs) h k l = let z : length (heard gs) ≡ 0 = rw h in absurd (omega arith)

pub no_answer : (gs : List (Option ℤ)) → Stops gs → (k : ℕ) → length (heard gs) ≤ k → get_or gs k None ≡ None
unfolding heard
no_answer [] h k l = refl
no_answer (Some s ∷ gs) h zero l = absurd (omega arith)
no_answer (Some s ∷ gs) h (suc k) l = no_answer gs h k (omega arith)
no_answer (None ∷ gs) h zero l = refl
no_answer (None ∷ gs) h (suc k) l = none-heard gs h k
