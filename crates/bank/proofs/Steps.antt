-- How one place decides the search, and its two loops, a turn at a time. Assumes nothing.
use Prim.Native.Nat.{ℕ, zero, suc, ◌+◌, ◌-◌, ◌/◌, ◌≤◌, ◌<◌}
use mathlib.Core.Path.{◌≡◌, refl, sym, ◌∙◌}
use mathlib.Core.Bool.{cond}
use mathlib.Core.List.{List, [], ◌∷◌, ◌++◌}
use native.Mathlib.Nat.{lt_irrefl}
use native.Mathlib.Numerals.{add-one}
use native.Mathlib.Omega.{arith}
use borrow.Author.Tests.{eq-eqb, ne_eqb, lt-ltb, le-ltb}
use lib.Dec.{ltb}
use Rattle.error.specs.Told.{value, refused}
use Rattle.tier.specs.declared.EffectKind.{EffectKind}
use Rattle.tier.specs.Kinds.{kind_of}
use Rattle.bank.specs.declared.EffectEntry.{EffectEntry}
use Rattle.bank.specs.Entries.{id_at, kind_byte, fields_at, entry_at}
use Rattle.bank.specs.Search.{halving, count_from, up_to, decided, found_in}

-- a byte up to 5 is a kind, one above is none
pub record Known (n : ℕ) : Type 0 where
  pub kind : EffectKind
  pub same : kind_of n ≡ value kind

pub known : (n : ℕ) → n ≤ 5 → Known n
unfolding kind_of
known zero h = record { kind = _; same = refl }
known (suc zero) h = record { kind = _; same = refl }
known (suc (suc zero)) h = record { kind = _; same = refl }
known (suc (suc (suc zero))) h = record { kind = _; same = refl }
known (suc (suc (suc (suc zero)))) h = record { kind = _; same = refl }
known (suc (suc (suc (suc (suc zero))))) h = record { kind = _; same = refl }
known (suc (suc (suc (suc (suc (suc n)))))) h = absurd (lt_irrefl 0 (omega arith))

pub unknown : (n : ℕ) → 5 < n → kind_of n ≡ refused 9
unfolding kind_of
unknown n h =
    rw (ne_eqb n 0 (λ e. omega arith), ne_eqb n 1 (λ e. omega arith), ne_eqb n 2 (λ e. omega arith), ne_eqb n 3 (λ e. omega arith), ne_eqb n 4 (λ e. omega arith), ne_eqb n 5 (λ e. omega arith))

-- an entry whose kind byte is up to 5 is read, with its id
pub record Read (bytes : List ℕ) (i : ℕ) : Type 0 where
  pub entry : EffectEntry
  pub same : entry_at bytes i ≡ value entry
  pub its-id : entry.id ≡ id_at bytes i

pub entry_known : (bytes : List ℕ) (i : ℕ) → kind_byte bytes i ≤ 5 → Read bytes i
unfolding entry_at fields_at
entry_known bytes i h =
    let k = known (kind_byte bytes i) h in
    record { entry = fields_at bytes i k.kind; same = rw k.same; its-id = refl }

pub entry-unknown : (bytes : List ℕ) (i : ℕ) → 5 < kind_byte bytes i → entry_at bytes i ≡ refused 9
unfolding entry_at
entry-unknown bytes i h = rw (unknown (kind_byte bytes i) h)

-- the first place decides by its kind byte or by its id, or passes the search on
module _ (bytes : List ℕ) (id i : ℕ) (rest : List ℕ) where
  pub decided-bad : 5 < kind_byte bytes i → decided bytes id (i ∷ rest) ≡ entry_at bytes i
  unfolding decided
  decided-bad h = rw (entry-unknown bytes i h)

  pub decided-hit : kind_byte bytes i ≤ 5 → id_at bytes i ≡ id → decided bytes id (i ∷ rest) ≡ entry_at bytes i
  unfolding decided
  decided-hit h e = let r = entry_known bytes i h in rw (r.same, eq-eqb r.entry.id id (r.its-id ∙ e))

  pub decided-on : kind_byte bytes i ≤ 5 → (id_at bytes i ≡ id → ⊥) → decided bytes id (i ∷ rest) ≡ decided bytes id rest
  unfolding decided
  decided-on h n = let r = entry_known bytes i h in rw (r.same, ne_eqb r.entry.id id (λ e. n (sym r.its-id ∙ e)))

-- any fuel of at least size gives the same places
enough : (bytes : List ℕ) (id j k low size : ℕ) → size ≤ j → size ≤ k → halving bytes id j low size ≡ halving bytes id k low size
unfolding halving
enough bytes id zero zero low size h l = refl
enough bytes id zero (suc k) low zero h l = refl
enough bytes id zero (suc k) low (suc n) h l = absurd (lt_irrefl 0 (omega arith))
enough bytes id (suc j) zero low zero h l = refl
enough bytes id (suc j) zero low (suc n) h l = absurd (lt_irrefl 0 (omega arith))
enough bytes id (suc j) (suc k) low zero h l = refl
enough bytes id (suc j) (suc k) low (suc n) h l =
    rw (enough bytes id j k (suc (low + n / 2)) (n - n / 2) (omega arith) (omega arith), enough bytes id j k low (n / 2) (omega arith) (omega arith))

-- Halving: what is left to probe, with the scan behind it, answers for the whole search.
pub record Halving (bytes : List ℕ) (count id low size : ℕ) : Type 0 where
  pub within : low + size ≤ count
  pub same : decided bytes id (halving bytes id size low size ++ up_to count) ≡ found_in bytes count id

pub halving-start : (bytes : List ℕ) (count id : ℕ) → Halving bytes count id 0 count
unfolding found_in
halving-start bytes count id = record { within = omega arith; same = refl }

-- the places of one turn: the middle, and those on one side of it
turn : (bytes : List ℕ) (id low size : ℕ) → 0 < size → halving bytes id size low size ≡ (low + (size - 1) / 2) ∷ cond (ltb (id_at bytes (low + (size - 1) / 2)) id) (halving bytes id (size - 1) (suc (low + (size - 1) / 2)) (size - 1 - (size - 1) / 2)) (halving bytes id (size - 1) low ((size - 1) / 2))
unfolding halving
turn bytes id low zero h = absurd (lt_irrefl 0 h)
turn bytes id low (suc n) h = let e : suc n - 1 ≡ n = omega arith in rw e

module _ (bytes : List ℕ) (count id low size : ℕ) (more : 0 < size) (inv : Halving bytes count id low size) where
  pub halving-bad : 5 < kind_byte bytes (low + (size - 1) / 2) → found_in bytes count id ≡ entry_at bytes (low + (size - 1) / 2)
  halving-bad h = sym inv.same ∙ rw (turn bytes id low size more) (decided-bad bytes id (low + (size - 1) / 2) _ h)

  pub halving-hit : kind_byte bytes (low + (size - 1) / 2) ≤ 5 → id_at bytes (low + (size - 1) / 2) ≡ id → found_in bytes count id ≡ entry_at bytes (low + (size - 1) / 2)
  halving-hit h e = sym inv.same ∙ rw (turn bytes id low size more) (decided-hit bytes id (low + (size - 1) / 2) _ h e)

  pub halving-right : kind_byte bytes (low + (size - 1) / 2) ≤ 5 → id_at bytes (low + (size - 1) / 2) < id → Halving bytes count id (low + (size - 1) / 2 + 1) (size - 1 - (size - 1) / 2)
  halving-right h l =
      let mid = low + (size - 1) / 2 in
      let others = size - 1 - (size - 1) / 2 in
      record {
        within = omega arith;
        same =
            rw (add-one mid, enough bytes id others (size - 1) (suc mid) others (omega arith) (omega arith))
            (sym (decided-on bytes id mid _ h (λ e. omega arith)) ∙ rw (turn bytes id low size more, lt-ltb (id_at bytes mid) id l) at inv.same);
      }

  pub halving-left : kind_byte bytes (low + (size - 1) / 2) ≤ 5 → (id_at bytes (low + (size - 1) / 2) ≡ id → ⊥) → id ≤ id_at bytes (low + (size - 1) / 2) → Halving bytes count id low ((size - 1) / 2)
  halving-left h n l =
      let mid = low + (size - 1) / 2 in
      record {
        within = omega arith;
        same =
            rw (enough bytes id ((size - 1) / 2) (size - 1) low ((size - 1) / 2) (omega arith) (omega arith))
            (sym (decided-on bytes id mid _ h n) ∙ rw (turn bytes id low size more, le-ltb (id_at bytes mid) id l) at inv.same);
      }

pub halving-end : (bytes : List ℕ) (count id low size : ℕ) → size ≤ 0 → Halving bytes count id low size → found_in bytes count id ≡ decided bytes id (up_to count)
unfolding halving
halving-end bytes count id low zero h inv = sym inv.same
halving-end bytes count id low (suc n) h inv = absurd (lt_irrefl 0 (omega arith))

pub ruleset halving_steps = (halving-start, halving-bad, halving-hit, halving-right, halving-left, halving-end)

-- The scan: the entries left answer for all.
pub record Scanning (bytes : List ℕ) (count id i : ℕ) : Type 0 where
  pub within : i ≤ count
  pub same : decided bytes id (count_from i (count - i)) ≡ decided bytes id (up_to count)

pub scanning-start : (bytes : List ℕ) (count id : ℕ) → Scanning bytes count id 0
scanning-start bytes count id = record { within = omega arith; same = let e : count - 0 ≡ count = omega arith in rw e }

next : (i count : ℕ) → i < count → count_from i (count - i) ≡ i ∷ count_from (i + 1) (count - (i + 1))
unfolding count_from
next i count h = let e : count - i ≡ suc (count - (i + 1)) = omega arith in rw (e, add-one i)

module _ (bytes : List ℕ) (count id i : ℕ) (more : i < count) (inv : Scanning bytes count id i) where
  pub scanning-bad : 5 < kind_byte bytes i → decided bytes id (up_to count) ≡ entry_at bytes i
  scanning-bad h = sym inv.same ∙ rw (next i count more) (decided-bad bytes id i _ h)

  pub scanning-hit : kind_byte bytes i ≤ 5 → id_at bytes i ≡ id → decided bytes id (up_to count) ≡ entry_at bytes i
  scanning-hit h e = sym inv.same ∙ rw (next i count more) (decided-hit bytes id i _ h e)

  pub scanning-on : kind_byte bytes i ≤ 5 → (id_at bytes i ≡ id → ⊥) → Scanning bytes count id (i + 1)
  scanning-on h n =
      record {
        within = omega arith;
        same = sym (decided-on bytes id i (count_from (i + 1) (count - (i + 1))) h n) ∙ rw (next i count more) at inv.same;
      }

pub scanning-end : (bytes : List ℕ) (count id i : ℕ) → count ≤ i → Scanning bytes count id i → decided bytes id (up_to count) ≡ decided bytes id []
unfolding count_from
scanning-end bytes count id i h inv = let e : count - i ≡ 0 = omega arith in sym inv.same ∙ rw e

pub ruleset scanning_steps = (scanning-start, scanning-bad, scanning-hit, scanning-on, scanning-end)
