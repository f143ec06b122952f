-- What the rows of a block hold: the samples of the box's frames. Assumes nothing.
use Prim.Native.Nat.{ℕ, zero, suc, ◌≤◌, min}
use native.Mathlib.Omega.{arith}
use mathlib.Core.Path.{◌≡◌, refl, ap}
use mathlib.Core.List.{List, [], ◌∷◌, ◌++◌}
use lib.IntN.{ℤ}
use lib.ListN.{length, take, drop, length-append, length-drop}
use lib.Seq.{take_at}
use Rattle.laws.specs.Made.{Made}
use Rattle.laws.specs.Runs.{after, given}
use Rattle.buffers.specs.Buffers.{to_i8}
use Rattle.buffers.specs.Blocks.{pairs, row}

module _ {State : Type 0} (step : State → State) (sample : State → ℤ) where
  length-row : (n : ℕ) (s : State) → length (row step sample n s) ≡ n
  unfolding given
  length-row zero s = refl
  length-row (suc n) s = rw (length-row n (step s))

  pub pairs-given : (r : State → ℤ) (n : ℕ) (s : State) → pairs to_i8 (row step sample n s) (row step r n s) ≡ given step (λ s. sample s ∷ r s ∷ []) n s
  unfolding given pairs
  pairs-given r zero s = refl
  pairs-given r (suc n) s = ap (λ (x : List ℤ). sample s ∷ r s ∷ x) (pairs-given r n (step s))

  -- a block that was filled for n frames, n at most 256
  pub block-cells : (n : ℕ) (s : State) (rest : List ℤ) {block : List ℤ} → n ≤ 256 → block ≡ row step sample (min n 256) s ++ rest → take n block ≡ row step sample n s
  block-cells n s rest h e =
      let k : min n 256 ≡ n = omega arith in
      rw (e, k) (take_at (row step sample n s) rest n (length-row n s))

  pub block-whole : (n : ℕ) (s : State) (was : List ℤ) {block : List ℤ} → length was ≡ 256 → block ≡ row step sample (min n 256) s ++ drop (min n 256) was → length block ≡ 256
  block-whole n s was h e = rw (e, length-append, length-row (min n 256) s, length-drop) (omega arith)

pub made-few : {State : Type 0} {Good : State → Type 0} (step : State → State) (m : State) {r : State} (n : ℕ) → n ≤ 256 → Made Good (after step (min n 256) m) r → Made Good (after step n m) r
made-few step m n h p =
    let k : min n 256 ≡ n = omega arith in
    rw k at p
