-- How often a signal would be turned away, for other languages: refused and accepted, one to a cell. Assumes nothing.
use Rattle.std.specs.Prelude.{ℕ, List, [], ◌∷◌}
use Rattle.counts.specs.declared.Counts.{Counts}
use Rattle.error.specs.Told.{Told, value, and_then}

abbrev pub counts_told : Told Counts → Told (List ℕ)
counts_told t = and_then t (λ c. value (c.refused ∷ c.accepted ∷ []))
