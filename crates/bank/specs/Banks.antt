-- Document 01, "Where a call is turned down": the places "Setting a bank", "Bank, for play, fade, entry search and payload lookup"
-- and "payload lookup". Assumes nothing.
use Rattle.std.specs.Prelude.{ℕ, ◌+◌, ◌≤◌, Bool, false, cond, List, [], eqb, ltb, leb, length, take, drop, Option, Some, None}
use Rattle.error.specs.Told.{Told, value, refused, and_then, passed}
use Rattle.bank.specs.declared.SoundBank.{SoundBank}
use Rattle.bank.specs.declared.EffectEntry.{EffectEntry}
use Rattle.bank.specs.Entries.{place_of, entry_at}

-- "Setting a bank": 2 for "its rate above 65,537", then 4 where "10 + 16 × count exceeds its bytes", which are len in number
unfoldable pub bank_of : ℕ → ℕ → ℕ → Told SoundBank
bank_of rate count len =
    cond (ltb 65537 rate) (refused 2)
    (cond (ltb len (place_of count)) (refused 4)
    (value (record { sample_rate_hz = rate; effect_count = count; len = len })))

-- in front of every lookup: 6 for "none set", 7 where the "lent length is not the length set"
unfoldable pub lent_bank : Option SoundBank → ℕ → Told SoundBank
lent_bank None lent = refused 6
lent_bank (Some b) lent = cond (eqb lent b.len) (value b) (refused 7)

-- A bank as setting gives it. No ghost field or model: either would put a proof, or a second record of the same fields, into each
-- definition that makes a bank (bank_of here, and those of states and of banks written).
pub record Valid (b : SoundBank) : Type 0 where
  pub rate : b.sample_rate_hz ≤ 65537
  pub holds : place_of b.effect_count ≤ b.len

abbrev pub ValidBank : Option SoundBank → Type 0
ValidBank None = Unit {0}
ValidBank (Some b) = Valid b

-- one entry by its index; 8 for an index that is not below the count
abbrev pub entry_given : Option SoundBank → List ℕ → ℕ → Told EffectEntry
entry_given bank bytes index =
    and_then (lent_bank bank (length bytes)) (λ b. cond (ltb index b.effect_count) (entry_at bytes index) (refused 8))

-- Where a payload fails, if "offset + length exceeds the bank". Document 02: "offset beyond the bank", or "offset within or at its end, but the
-- payload runs over".
pub data Fails : Type 0 where
  nowhere : Fails
  at_offset : Fails
  at_length : Fails

abbrev pub fails_in : ℕ → ℕ → ℕ → Fails
fails_in size offset len = cond (leb (offset + len) size) nowhere (cond (ltb size offset) at_offset at_length)

-- each box's number for it: document 01's 4 for either, or, `parted`, document 02's 15 and 16
abbrev pub payload_number : Bool → Fails → Told (Unit {0})
payload_number parted nowhere = passed
payload_number parted at_offset = refused (cond parted 15 4)
payload_number parted at_length = refused (cond parted 16 4)

-- "A payload lookup takes an entry's offset and length and gives its number in one call"
unfoldable pub payload_under : Bool → Option SoundBank → List ℕ → ℕ → ℕ → Told (Unit {0})
payload_under parted bank bytes offset len =
    and_then (lent_bank bank (length bytes)) (λ b. payload_number parted (fails_in (length bytes) offset len))

-- by document 01
abbrev pub payload_given : Option SoundBank → List ℕ → ℕ → ℕ → Told (Unit {0})
payload_given bank bytes offset len = payload_under false bank bytes offset len

-- "and the part in another; refused, that part is empty": "the very part of the lent bank from its offset, of its length"
abbrev pub part_of : Told (Unit {0}) → List ℕ → ℕ → ℕ → List ℕ
part_of (value _) bytes offset len = take len (drop offset bytes)
part_of (refused n) bytes offset len = []

abbrev pub payload_part : Option SoundBank → List ℕ → ℕ → ℕ → List ℕ
payload_part bank bytes offset len = part_of (payload_given bank bytes offset len) bytes offset len
