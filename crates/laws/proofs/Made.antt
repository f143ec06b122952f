-- What a call gives back is Made. Assumes nothing.
use mathlib.Core.Path.{◌≡◌}
use Rattle.laws.specs.Made.{Made}

-- r is x, which is valid
pub made : {A : Type 0} {P : A → Type 0} {x r : A} → r ≡ x → P x → Made P x r
made e h = record { same = e; valid = rw e h }
