-- The one way of every call that may be refused: the number is the answer, and the value goes into cells that the caller lends. Assumes
-- nothing.
use Rattle.std.specs.Prelude.{ℕ, ◌≡◌}
use Rattle.error.specs.Told.{Told, value, refused, number_in}

-- "A refusal changes nothing and writes to no buffer."
abbrev pub cells_in : {A : Type 0} → A → Told A → A
cells_in before (value x) = x
cells_in before (refused n) = before

pub record Answers {A : Type 0} (t : Told A) (before : A) (r : ℕ) (after : A) : Type 0 where
  pub number : r ≡ number_in t
  pub cells : after ≡ cells_in before t
