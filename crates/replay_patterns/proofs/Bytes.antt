-- A flag as a byte. Assumes nothing.
use mathlib.Core.Bool.{Bool, true, false}
use mathlib.Core.Path.{◌≡◌, refl}
use Rattle.std.specs.Int.{from_bool}
use Rattle.evacuation.specs.Pattern.{byte_of}

-- std's number of a flag is the pattern's byte
pub as_byte : (b : Bool) → from_bool b ≡ byte_of b
as_byte true = refl
as_byte false = refl
