-- One step after another. Assumes nothing.
use Rattle.std.specs.Prelude.{ℕ, zero, suc, List, [], ◌++◌}

-- n steps, each from the state that the one before left: the state after them, and all that they gave
module _ {State : Type 0} (step : State → State) where
  unfoldable pub after : ℕ → State → State
  after zero s = s
  after (suc n) s = after n (step s)

  unfoldable pub given : {A : Type 0} → (State → List A) → ℕ → State → List A
  given gives zero s = []
  given gives (suc n) s = gives s ++ given gives n (step s)
