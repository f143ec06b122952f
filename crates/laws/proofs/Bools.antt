-- A Bool test and what it tells. Assumes nothing.
use mathlib.Core.Path.{◌≡◌, sym, subst}
use mathlib.Core.Bool.{true, false}
use lib.Dec.{T}

-- a test whose outcome contradicts what is known
pub never : {X : Type 0} → false ≡ true → X
never e = absurd (subst T (sym e) tt)
