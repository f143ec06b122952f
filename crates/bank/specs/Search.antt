-- Document 01, "Bank": "`find_by_id` halves between 0 and count − 1, middle floored, and answers the first hit; failing that, it
-- reads every entry from 0." "In the search, whichever row is met first along its path is given." Assumes nothing.
use Rattle.std.specs.Prelude.{ℕ, zero, suc, ◌+◌, ◌-◌, ◌/◌, cond, List, [], ◌∷◌, ◌++◌, eqb, ltb, length, Option}
use Rattle.error.specs.Told.{Told, value, refused, and_then}
use Rattle.bank.specs.declared.SoundBank.{SoundBank}
use Rattle.bank.specs.declared.EffectEntry.{EffectEntry}
use Rattle.bank.specs.Entries.{id_at, entry_at}
use Rattle.bank.specs.Banks.{lent_bank}

-- The places that halving probes among low, .. low + size − 1: the middle, low + (size − 1) / 2, which is the floor of
-- (low + high) / 2; then those on its right where its id is below the one looked for, else those on its left.
-- Each half is smaller than the whole, so a fuel of size is enough.
unfoldable pub halving : List ℕ → ℕ → ℕ → ℕ → ℕ → List ℕ
halving bytes id zero low size = []
halving bytes id (suc fuel) low zero = []
halving bytes id (suc fuel) low (suc others) =
    (low + others / 2)
    ∷ cond (ltb (id_at bytes (low + others / 2)) id)
    (halving bytes id fuel (suc (low + others / 2)) (others - others / 2))
    (halving bytes id fuel low (others / 2))

-- n places from one on, and "every entry from 0"
unfoldable pub count_from : ℕ → ℕ → List ℕ
count_from i zero = []
count_from i (suc n) = i ∷ count_from (suc i) n

abbrev pub up_to : ℕ → List ℕ
up_to count = count_from 0 count

-- the entries read in this order: "whichever row is met first along its path is given", so a refusal ends the search, and a hit answers it;
-- 8 where "no entry has the id"
unfoldable pub decided : List ℕ → ℕ → List ℕ → Told EffectEntry
decided bytes id [] = refused 8
decided bytes id (i ∷ rest) = and_then (entry_at bytes i) (λ e. cond (eqb e.id id) (value e) (decided bytes id rest))

-- the search among count entries. After a hit the places may go on; the first one that decides counts.
unfoldable pub found_in : List ℕ → ℕ → ℕ → Told EffectEntry
found_in bytes count id = decided bytes id (halving bytes id count 0 count ++ up_to count)

abbrev pub found_given : Option SoundBank → List ℕ → ℕ → Told EffectEntry
found_given bank bytes id = and_then (lent_bank bank (length bytes)) (λ b. found_in bytes b.effect_count id)
