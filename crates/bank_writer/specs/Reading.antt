-- What document 01's calls find in a bank that was written, and which bytes hold the same. Assumes nothing.
use Rattle.std.specs.Prelude.{ℕ, ◌+◌, ◌≤◌, ◌<◌, ◌≡◌, Bool, cond, List, [], ◌∷◌, ltb, length, get_or, take, drop, Some}
use Rattle.error.specs.Told.{Told, value, refused, and_then, passed}
use Rattle.tier.specs.declared.EffectKind.{EffectKind}
use Rattle.tier.specs.Kinds.{kind_of}
use Rattle.laws.specs.Lists.{All}
use Rattle.bank.specs.declared.SoundBank.{SoundBank}
use Rattle.bank.specs.declared.EffectEntry.{EffectEntry}
use Rattle.bank.specs.Entries.{byte_at, place_of, entry_at}
use Rattle.bank.specs.Banks.{bank_of, payload_under, payload_part}
use Rattle.bank.specs.Search.{found_given}
use Rattle.bank_writer.specs.declared.NewEntry.{NewEntry}
use Rattle.bank_writer.specs.Order.{Part, id_of, no_part}
use Rattle.bank_writer.specs.Layout.{entries_of}
use Rattle.bank_writer.specs.Refusals.{total_of}

-- a field of an entry is a number of its width
pub record Typed (e : NewEntry) : Type 0 where
  pub id : e.id < 65536
  pub flags : e.flags < 256
  pub gain : e.default_gain_q8 < 256
  pub param0 : e.param0 < 65536
  pub param1 : e.param1 < 65536

-- an entry as it is read: every field as given, and its offset
abbrev pub read_as : NewEntry → ℕ → Told EffectKind → Told EffectEntry
read_as e offset kind =
    and_then kind
    (λ k.
    value
    (record {
      id = e.id;
      kind = k;
      flags = e.flags;
      default_gain_q8 = e.default_gain_q8;
      param0 = e.param0;
      param1 = e.param1;
      offset = offset;
      len = e.len;
    }))

-- the bytes of all payloads whose entries have a lower id
unfoldable pub lower_bytes : ℕ → List Part → ℕ
lower_bytes id [] = 0
lower_bytes id (p ∷ ps) = cond (ltb (id_of p) id) p.entry.len 0 + lower_bytes id ps

-- where a payload begins: behind the entries and those
abbrev pub offset_of : List Part → Part → ℕ
offset_of ps p = place_of (length ps) + lower_bytes (id_of p) ps

-- the bank, set at its count
abbrev pub set_at : ℕ → List Part → List ℕ → SoundBank
set_at rate ps bytes = record { sample_rate_hz = rate; effect_count = length ps; len = length bytes }

-- "With the bank set at its count, the search finds each entry written and payload lookup returns its bytes", at any rate that a bank may
-- have and in either box; an id that was not given is not found
pub record ReadBack (ps : List Part) (bytes : List ℕ) (rate : ℕ) : Type 0 where
  pub setting : bank_of rate (length ps) (length bytes) ≡ value (set_at rate ps bytes)
  pub known : (i : ℕ) → i < length ps → (get_or ps i no_part).entry.kind ≤ 5
  pub found : (i : ℕ) → i < length ps → let p = get_or ps i no_part in found_given (Some (set_at rate ps bytes)) bytes (id_of p) ≡ read_as p.entry (offset_of ps p) (kind_of p.entry.kind)
  pub number : (parted : Bool) (i : ℕ) → i < length ps → let p = get_or ps i no_part in payload_under parted (Some (set_at rate ps bytes)) bytes (offset_of ps p) p.entry.len ≡ passed
  pub payload : (i : ℕ) → i < length ps → let p = get_or ps i no_part in payload_part (Some (set_at rate ps bytes)) bytes (offset_of ps p) p.entry.len ≡ p.payload
  pub missing : (id : ℕ) → All (λ q. id_of q ≡ id → ⊥) ps → found_given (Some (set_at rate ps bytes)) bytes id ≡ refused 8

-- Bytes that hold these entries in this order: the header, each entry at its place as given, with the unread byte 0 and its payload where the
-- one before it ends, and nothing more
pub record Holds (header : List ℕ) (ps : List Part) (bytes : List ℕ) : Type 0 where
  pub size : length bytes ≡ place_of (length ps) + total_of (entries_of ps)
  pub cells : All (λ b. b < 256) bytes
  pub head : take 10 bytes ≡ header
  pub entry : (k : ℕ) → k < length ps → let e = (get_or ps k no_part).entry in entry_at bytes k ≡ read_as e (place_of (length ps) + total_of (take k (entries_of ps))) (kind_of e.kind)
  pub unread : (k : ℕ) → k < length ps → byte_at bytes (place_of k + 5) ≡ 0
  pub payload : (k : ℕ) → k < length ps → let p = get_or ps k no_part in take p.entry.len (drop (place_of (length ps) + total_of (take k (entries_of ps))) bytes) ≡ p.payload
