-- Steps in two parts are the steps at once. Assumes nothing.
use Prim.Native.Nat.{ℕ, zero, suc, ◌+◌}
use native.Mathlib.Nat.{zero-add, suc-add}
use mathlib.Core.Path.{◌≡◌}
use mathlib.Core.List.{List, ◌++◌, append_assoc}
use Rattle.laws.specs.Runs.{after, given}

module _ {State : Type 0} (step : State → State) where
  pub after-parts : (a b : ℕ) (s : State) → after step (a + b) s ≡ after step b (after step a s)
  unfolding after
  after-parts zero b s = rw zero-add
  after-parts (suc a) b s = rw suc-add (after-parts a b (step s))

  pub given-parts : {A : Type 0} (gives : State → List A) (a b : ℕ) (s : State)
      → given step gives (a + b) s ≡ given step gives a s ++ given step gives b (after step a s)
  unfolding given after
  given-parts gives zero b s = rw zero-add
  given-parts gives (suc a) b s = rw (suc-add, given-parts gives a b (step s), append_assoc)
