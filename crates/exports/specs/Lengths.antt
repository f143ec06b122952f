-- Lengths with what is left over, for other languages: samples and remainder, one to a cell. Assumes nothing.
use Rattle.std.specs.Prelude.{ℕ, List, [], ◌∷◌}
use Rattle.error.specs.Told.{Told, value, and_then}
use Rattle.lengths.specs.declared.Length.{Length}
use Rattle.lengths.specs.declared.Total.{Total}

-- of one length
abbrev pub length_told : Told Length → Told (List ℕ)
length_told t = and_then t (λ n. value (n.samples ∷ n.remainder ∷ []))

-- of a whole list
abbrev pub total_told : Told Total → Told (List ℕ)
total_told t = and_then t (λ n. value (n.samples ∷ n.remainder ∷ []))
