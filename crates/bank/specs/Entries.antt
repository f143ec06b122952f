-- Document 01, "Bank": "All multi-byte bank fields are little-endian." "Ten header bytes are not read here. Entry i begins at
-- 10 + 16i: id (2 bytes), kind, flags, gain, one unread byte, param0 (2), param1 (2), offset (4), length (2)." Assumes nothing.
use Rattle.std.specs.Prelude.{ℕ, ◌+◌, ◌*◌, List, get_or}
use Rattle.error.specs.Told.{Told, value, and_then}
use Rattle.tier.specs.declared.EffectKind.{EffectKind}
use Rattle.tier.specs.Kinds.{kind_of}
use Rattle.bank.specs.declared.EffectEntry.{EffectEntry}

-- the byte at place k, and the little-endian numbers of two and four bytes from there
abbrev pub byte_at : List ℕ → ℕ → ℕ
byte_at bytes k = get_or bytes k 0

abbrev pub little16_at : List ℕ → ℕ → ℕ
little16_at bytes k = byte_at bytes k + 256 * byte_at bytes (k + 1)

abbrev pub little32_at : List ℕ → ℕ → ℕ
little32_at bytes k = little16_at bytes k + 65536 * little16_at bytes (k + 2)

-- "Entry i begins at 10 + 16i"
abbrev pub place_of : ℕ → ℕ
place_of i = 10 + 16 * i

abbrev pub id_at : List ℕ → ℕ → ℕ
id_at bytes i = little16_at bytes (place_of i)

abbrev pub kind_byte : List ℕ → ℕ → ℕ
kind_byte bytes i = byte_at bytes (place_of i + 2)

unfoldable pub fields_at : List ℕ → ℕ → EffectKind → EffectEntry
fields_at bytes i kind =
    record {
      id = id_at bytes i;
      kind = kind;
      flags = byte_at bytes (place_of i + 3);
      default_gain_q8 = byte_at bytes (place_of i + 4);
      param0 = little16_at bytes (place_of i + 6);
      param1 = little16_at bytes (place_of i + 8);
      offset = little32_at bytes (place_of i + 10);
      len = little16_at bytes (place_of i + 14);
    }

-- entry i; 9 where "a probed entry's kind byte is above 5"
unfoldable pub entry_at : List ℕ → ℕ → Told EffectEntry
entry_at bytes i = and_then (kind_of (kind_byte bytes i)) (λ kind. value (fields_at bytes i kind))
