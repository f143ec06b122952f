-- Inner: what a loop of the search gives. Assumes nothing.
use Rattle.std.specs.Prelude.{ℕ, List, Option, Some, None}
use Rattle.error.specs.Told.{Told}
use Rattle.bank.specs.declared.EffectEntry.{EffectEntry}
use Rattle.bank.specs.Entries.{entry_at}

-- the entry at the place that decides, or what the others answer where none does
abbrev pub settled : List ℕ → Option ℕ → Told EffectEntry → Told EffectEntry
settled bytes (Some i) others = entry_at bytes i
settled bytes None others = others
