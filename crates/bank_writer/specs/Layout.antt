-- Document 02, T-05: "write the one accepted layout: entries by rising id, unread byte 0, payloads in the same order without gaps", in
-- document 01's form of an entry. Assumes nothing.
use Rattle.std.specs.Prelude.{ℕ, ◌+◌, ◌/◌, ◌%◌, List, [], ◌∷◌, ◌++◌, map, length}
use Rattle.bank.specs.Entries.{place_of}
use Rattle.bank_writer.specs.declared.NewEntry.{NewEntry}
use Rattle.bank_writer.specs.Order.{Part, by_id}

-- "All multi-byte bank fields are little-endian": the low two bytes of a number, and the low four
abbrev pub little16 : ℕ → List ℕ
little16 n = n % 256 ∷ n / 256 % 256 ∷ []

abbrev pub little32 : ℕ → List ℕ
little32 n = little16 n ++ little16 (n / 65536)

-- "id (2 bytes), kind, flags, gain, one unread byte, param0 (2), param1 (2), offset (4), length (2)"
unfoldable pub entry_bytes : NewEntry → ℕ → List ℕ
entry_bytes e offset =
    little16 e.id ++ (e.kind ∷ e.flags ∷ e.default_gain_q8 ∷ 0 ∷ [])
    ++ little16 e.param0 ++ little16 e.param1 ++ little32 offset ++ little16 e.len

-- one entry after another; "without gaps", so each payload begins where the one before it ends
unfoldable pub table : ℕ → List NewEntry → List ℕ
table offset [] = []
table offset (e ∷ es) = entry_bytes e offset ++ table (offset + e.len) es

unfoldable pub payloads_of : List Part → List ℕ
payloads_of [] = []
payloads_of (p ∷ ps) = p.payload ++ payloads_of ps

abbrev pub entries_of : List Part → List NewEntry
entries_of ps = map (λ (p : Part). p.entry) ps

-- the header, the entries, then the payloads in the same order; the first payload begins behind the last entry
unfoldable pub laid_out : List ℕ → List Part → List ℕ
laid_out header ps = header ++ table (place_of (length ps)) (entries_of ps) ++ payloads_of ps

abbrev pub bank_bytes : List ℕ → List Part → List ℕ
bank_bytes header given = laid_out header (by_id given)
