-- A bank that is set for one call alone: its search and its payloads. Assumes nothing.
use Rattle.std.specs.Prelude.{ℕ, true, List, [], ◌∷◌, length, Some}
use Rattle.bank.specs.Banks.{bank_of, payload_under}
use Rattle.bank.specs.Search.{found_given}
use Rattle.bank.specs.declared.EffectEntry.{EffectEntry}
use Rattle.error.specs.Told.{Told, value, and_then}
use Rattle.tier.specs.Kinds.{byte_of}

-- "Setting a bank", then "Entry search"
unfoldable pub searched : List ℕ → ℕ → ℕ → ℕ → Told EffectEntry
searched bytes rate count id = and_then (bank_of rate count (length bytes)) (λ b. found_given (Some b) bytes id)

-- an entry's fields in their order
abbrev pub entry_cells : EffectEntry → List ℕ
entry_cells e =
    e.id
    ∷ byte_of e.kind
    ∷ e.flags
    ∷ e.default_gain_q8
    ∷ e.param0
    ∷ e.param1
    ∷ e.offset
    ∷ e.len
    ∷ []

abbrev pub entry_told : Told EffectEntry → Told (List ℕ)
entry_told t = and_then t (λ e. value (entry_cells e))

-- "Setting a bank", then "payload lookup" by the present rules
unfoldable pub looked_up : List ℕ → ℕ → ℕ → ℕ → ℕ → Told (Unit {0})
looked_up bytes rate count offset len =
    and_then (bank_of rate count (length bytes)) (λ b. payload_under true (Some b) bytes offset len)

-- "the very part of the lent bank from its offset, of its length": the two numbers that say which
abbrev pub part_told : ℕ → ℕ → Told (Unit {0}) → Told (List ℕ)
part_told offset len t = and_then t (λ _. value (offset ∷ len ∷ []))

-- the part of the entry that a search finds
abbrev pub found_part : List ℕ → ℕ → ℕ → Told EffectEntry → Told (List ℕ)
found_part bytes rate count t =
    and_then t (λ e. part_told e.offset e.len (looked_up bytes rate count e.offset e.len))
