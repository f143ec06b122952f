-- What a call promises of a value that it gives back: which one it is, and that it keeps what such values keep. Assumes nothing.
use Rattle.std.specs.Prelude.{◌≡◌}

pub record Made {A : Type 0} (Valid : A → Type 0) (x r : A) : Type 0 where
  pub same : r ≡ x
  pub valid : Valid r
