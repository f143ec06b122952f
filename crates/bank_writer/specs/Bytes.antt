-- Entries as the bytes that a program hands over, in the replay's record 83 and from C and Rust. Assumes nothing.
use Rattle.std.specs.Prelude.{ℕ, suc, ◌+◌, ◌*◌, cond, List, [], ◌∷◌, leb, length, get_or}
use Rattle.laws.specs.Runs.{given}
use Rattle.bank_writer.specs.declared.NewEntry.{NewEntry}
use Rattle.bank_writer.specs.Order.{no_entry}

-- numbers of two bytes and four from byte k on, high byte first
abbrev pub big16_at : List ℕ → ℕ → ℕ
big16_at bytes k = 256 * get_or bytes k 0 + get_or bytes (k + 1) 0

abbrev pub big32_at : List ℕ → ℕ → ℕ
big32_at bytes k = 65536 * big16_at bytes k + big16_at bytes (k + 2)

-- "id (2), kind (1), flags (1), gain (1), param0 (2), param1 (2), length (4)"
abbrev pub fields_at : List ℕ → ℕ → NewEntry
fields_at bytes k =
    record {
      id = big16_at bytes k;
      kind = get_or bytes (k + 2) 0;
      flags = get_or bytes (k + 3) 0;
      default_gain_q8 = get_or bytes (k + 4) 0;
      param0 = big16_at bytes (k + 5);
      param1 = big16_at bytes (k + 7);
      len = big32_at bytes (k + 9);
    }

-- the entry at byte k; where fewer than thirteen bytes are left there is none
unfoldable pub entry_from : List ℕ → ℕ → NewEntry
entry_from bytes k = cond (leb (k + 13) (length bytes)) (fields_at bytes k) no_entry

-- sixty-four entries, thirteen bytes each
abbrev pub entries_from : List ℕ → List NewEntry
entries_from bytes = given suc (λ (i : ℕ). entry_from bytes (13 * i) ∷ []) 64 0
