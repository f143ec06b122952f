-- What the search finds among count entries, for callers. Assumes nothing.
use Prim.Native.Nat.{ℕ, zero, suc, ◌+◌, ◌-◌, ◌/◌, ◌≤◌, ◌<◌}
use mathlib.Core.Path.{◌≡◌, refl, sym, ap, ◌∙◌}
use mathlib.Core.Bool.{Bool, true, false, cond}
use mathlib.Core.List.{List, [], ◌∷◌, ◌++◌}
use native.Mathlib.Nat.{add-zero, zero-add, add-suc, suc-add, lt_irrefl}
use native.Mathlib.Omega.{arith}
use borrow.Author.Tests.{eqb-true, eqb-false, ltb-true, ltb-false}
use lib.Dec.{eqb, ltb}
use lib.ListN.{length}
use Rattle.error.specs.Told.{Told, value, refused}
use Rattle.bank.specs.declared.SoundBank.{SoundBank}
use Rattle.std.specs.Prelude.{Some}
use Rattle.bank.specs.declared.EffectEntry.{EffectEntry}
use Rattle.bank.specs.Entries.{id_at, kind_byte, entry_at}
use Rattle.bank.specs.Search.{halving, count_from, up_to, decided, found_in, found_given}
use Rattle.bank.proofs.Laws.{lent_same}
use Rattle.bank.proofs.Steps.{entry_known, entry-unknown, decided-bad, decided-hit, decided-on}

-- an entry that the search answers
pub record FoundAt (bytes : List ℕ) (count id : ℕ) (e : EffectEntry) : Type 0 where
  pub place : ℕ
  pub below : place < count
  pub read : entry_at bytes place ≡ value e
  pub asked : e.id ≡ id

-- the search answers an entry
pub record Found (bytes : List ℕ) (count id : ℕ) : Type 0 where
  pub entry : EffectEntry
  pub same : found_in bytes count id ≡ value entry
  pub from : FoundAt bytes count id entry

-- an entry whose kind byte is above 5
pub record BadKind (bytes : List ℕ) (count : ℕ) : Type 0 where
  pub place : ℕ
  pub below : place < count
  pub above : 5 < kind_byte bytes place

abbrev Every : (ℕ → Type 0) → List ℕ → Type 0
Every P [] = Unit {0}
Every P (i ∷ rest) = P i × Every P rest

module _ (P : ℕ → Type 0) where
  every_append : (a b : List ℕ) → Every P a → Every P b → Every P (a ++ b)
  every_append [] b h k = k
  every_append (i ∷ a) b h k = (h.0, every_append a b h.1 k)

  every-right : (a b : List ℕ) → Every P (a ++ b) → Every P b
  every-right [] b h = h
  every-right (i ∷ a) b h = every-right a b h.1

  every_of : (t : Bool) (a b : List ℕ) → Every P a → Every P b → Every P (cond t a b)
  every_of true a b h k = h
  every_of false a b h k = k

  every-at : (i n d : ℕ) → Every P (count_from i n) → d < n → P (i + d)
  unfolding count_from
  every-at i zero d h l = absurd (lt_irrefl 0 (omega arith))
  every-at i (suc n) zero h l = rw add-zero h.0
  every-at i (suc n) (suc d) h l = rw (add-suc, ← suc-add) (every-at (suc i) n d h.1 (omega arith))

-- every place that the search reads is below the count
scan-below : (count i n : ℕ) → i + n ≤ count → Every (λ j. j < count) (count_from i n)
unfolding count_from
scan-below count i zero h = tt
scan-below count i (suc n) h = (omega arith, scan-below count (suc i) n (omega arith))

halving-below : (bytes : List ℕ) (id count fuel low size : ℕ) → low + size ≤ count → Every (λ j. j < count) (halving bytes id fuel low size)
unfolding halving
halving-below bytes id count zero low size h = tt
halving-below bytes id count (suc fuel) low zero h = tt
halving-below bytes id count (suc fuel) low (suc n) h = (
  omega arith,
  every_of (λ j. j < count) (ltb (id_at bytes (low + n / 2)) id) _ _
      (halving-below bytes id count fuel (suc (low + n / 2)) (n - n / 2) (omega arith))
      (halving-below bytes id count fuel low (n / 2) (omega arith)),
)

other-id : (bytes : List ℕ) (id count i : ℕ) → Every (λ j. id_at bytes j ≡ id → ⊥) (up_to count) → i < count → id_at bytes i ≡ id → ⊥
other-id bytes id count i f h = rw (zero-add i) at (every-at (λ j. id_at bytes j ≡ id → ⊥) 0 count i f h)

-- what an answer tells where these places were read
data Tells (bytes : List ℕ) (count id : ℕ) (places : List ℕ) (r : Told EffectEntry) : Type 0 where
  hit : (e : EffectEntry) → r ≡ value e → FoundAt bytes count id e → Tells bytes count id places r
  bad : r ≡ refused 9 → BadKind bytes count → Tells bytes count id places r
  none : r ≡ refused 8 → Every (λ i. id_at bytes i ≡ id → ⊥) places → Tells bytes count id places r

module _ (bytes : List ℕ) (count id : ℕ) where
  -- one place more in front
  tells-one : (i : ℕ) (rest : List ℕ) → i < count → Tells bytes count id rest (decided bytes id rest) → Tells bytes count id (i ∷ rest) (decided bytes id (i ∷ rest))
  tells-one i rest h others = by_kind (ltb 5 (kind_byte bytes i)) refl
    where
      on : kind_byte bytes i ≤ 5 → (id_at bytes i ≡ id → ⊥) → Tells bytes count id rest (decided bytes id rest) → Tells bytes count id (i ∷ rest) (decided bytes id (i ∷ rest))
      on k n (hit e q f) = hit e (decided-on bytes id i rest k n ∙ q) f
      on k n (bad q f) = bad (decided-on bytes id i rest k n ∙ q) f
      on k n (none q f) = none (decided-on bytes id i rest k n ∙ q) (n, f)

      by-id : kind_byte bytes i ≤ 5 → (t : Bool) → eqb (id_at bytes i) id ≡ t → Tells bytes count id (i ∷ rest) (decided bytes id (i ∷ rest))
      by-id k true t =
          let e = eqb-true (id_at bytes i) id t in
          let a = entry_known bytes i k in
          hit a.entry (decided-hit bytes id i rest k e ∙ a.same) (record { place = i; below = h; read = a.same; asked = a.its-id ∙ e })
      by-id k false t = on k (eqb-false (id_at bytes i) id t) others

      by_kind : (t : Bool) → ltb 5 (kind_byte bytes i) ≡ t → Tells bytes count id (i ∷ rest) (decided bytes id (i ∷ rest))
      by_kind true t =
          let k = ltb-true 5 (kind_byte bytes i) t in
          bad (decided-bad bytes id i rest k ∙ entry-unknown bytes i k) (record { place = i; below = h; above = k })
      by_kind false t = by-id (ltb-false 5 (kind_byte bytes i) t) (eqb (id_at bytes i) id) refl

  tells : (places : List ℕ) → Every (λ i. i < count) places → Tells bytes count id places (decided bytes id places)
  unfolding decided
  tells [] h = none refl tt
  tells (i ∷ rest) h = tells-one i rest h.0 (tells rest h.1)

  -- every place of the search
  abbrev probed : List ℕ
  probed = halving bytes id count 0 count ++ up_to count

  answered : Tells bytes count id probed (found_in bytes count id)
  unfolding found_in
  answered =
      tells probed
      (every_append (λ j. j < count) (halving bytes id count 0 count) (up_to count) (halving-below bytes id count count 0 count (omega arith)) (scan-below count 0 count (omega arith)))

  -- an entry that is answered is one of the count entries, and has the id
  pub found-entry : {e : EffectEntry} → found_in bytes count id ≡ value e → FoundAt bytes count id e
  found-entry {e} q = by answered
    where
      by : Tells bytes count id probed (found_in bytes count id) → FoundAt bytes count id e
      by (hit a p f) = let same : a ≡ e = cc in rw same at f
      by (bad p f) = let z : ◌≡◌ {A = ℕ} 0 1 = cc in absurd (omega arith)
      by (none p f) = let z : ◌≡◌ {A = ℕ} 0 1 = cc in absurd (omega arith)

  -- 8 only where no entry has the id
  pub found_none : found_in bytes count id ≡ refused 8 → (i : ℕ) → i < count → id_at bytes i ≡ id → ⊥
  found_none q i h = by answered
    where
      by : Tells bytes count id probed (found_in bytes count id) → id_at bytes i ≡ id → ⊥
      by (hit a p f) n = let z : ◌≡◌ {A = ℕ} 0 1 = cc in omega arith
      by (bad p f) n = let z : ◌≡◌ {A = ℕ} 8 9 = cc in omega arith
      by (none p f) n = other-id bytes id count i (every-right (λ j. id_at bytes j ≡ id → ⊥) (halving bytes id count 0 count) (up_to count) f) h n

  -- 9 only where a kind byte is above 5
  pub found-bad : found_in bytes count id ≡ refused 9 → BadKind bytes count
  found-bad q = by answered
    where
      by : Tells bytes count id probed (found_in bytes count id) → BadKind bytes count
      by (hit a p f) = let z : ◌≡◌ {A = ℕ} 0 1 = cc in absurd (omega arith)
      by (bad p f) = f
      by (none p f) = let z : ◌≡◌ {A = ℕ} 8 9 = cc in absurd (omega arith)

  -- where every kind byte is at most 5 and entry j has the id, an entry that has it is answered
  pub found-known : ((i : ℕ) → i < count → kind_byte bytes i ≤ 5) → (j : ℕ) → j < count → id_at bytes j ≡ id → Found bytes count id
  found-known k j h e = by answered
    where
      by : Tells bytes count id probed (found_in bytes count id) → Found bytes count id
      by (hit a p f) = record { entry = a; same = p; from = f }
      by (bad p f) = absurd (lt_irrefl 5 (omega (arith, f.above, k f.place f.below)))
      by (none p f) = absurd (found_none p j h e)

  -- and where none has it, 8 is
  pub found-absent : ((i : ℕ) → i < count → kind_byte bytes i ≤ 5) → ((i : ℕ) → i < count → id_at bytes i ≡ id → ⊥) → found_in bytes count id ≡ refused 8
  found-absent k n = by answered
    where
      by : Tells bytes count id probed (found_in bytes count id) → found_in bytes count id ≡ refused 8
      by (hit a p f) =
          let r = entry_known bytes f.place (k f.place f.below) in
          let own : r.entry ≡ a = cc in
          absurd (n f.place f.below (sym r.its-id ∙ ap (λ (x : EffectEntry). x.id) own ∙ f.asked))
      by (bad p f) = absurd (lt_irrefl 5 (omega (arith, f.above, k f.place f.below)))
      by (none p f) = p

-- no two of the count entries have one id
abbrev pub Distinct : List ℕ → ℕ → Type 0
Distinct bytes count = (i j : ℕ) → i < count → j < count → id_at bytes i ≡ id_at bytes j → i ≡ j

-- where moreover no two entries have one id, each is found by its id, in whatever order they stand
pub found-distinct : (bytes : List ℕ) (count : ℕ) → ((i : ℕ) → i < count → kind_byte bytes i ≤ 5) → Distinct bytes count → (j : ℕ) → j < count → found_in bytes count (id_at bytes j) ≡ entry_at bytes j
found-distinct bytes count k d j h =
    let f = found-known bytes count (id_at bytes j) k j h refl in
    let i = f.from.place in
    let a = entry_known bytes i (k i f.from.below) in
    let own : a.entry ≡ f.entry = cc in
    let e : i ≡ j = d i j f.from.below h (sym a.its-id ∙ ap (λ (x : EffectEntry). x.id) own ∙ f.from.asked) in
    f.same ∙ sym f.from.read ∙ rw e

-- a bank sorted by rising ids is such a one
abbrev pub Rising : List ℕ → ℕ → Type 0
Rising bytes count = (i : ℕ) → suc i < count → id_at bytes i < id_at bytes (suc i)

later : (bytes : List ℕ) (count : ℕ) → Rising bytes count → (i d : ℕ) → i + suc d < count → id_at bytes i < id_at bytes (i + suc d)
later bytes count r i zero h = let e : i + suc zero ≡ suc i = omega arith in rw e (r i (omega arith))
later bytes count r i (suc d) h =
    let one = later bytes count r i d (omega arith) in
    let two = r (i + suc d) (omega arith) in
    rw (add-suc i (suc d)) (omega arith)

pub rising-distinct : (bytes : List ℕ) (count : ℕ) → Rising bytes count → Distinct bytes count
rising-distinct bytes count r i j h k e = by_order (ltb i j) refl (ltb j i) refl
  where
    below : (a b : ℕ) → a < b → b < count → id_at bytes a < id_at bytes b
    below a b l m = let q : a + suc (b - suc a) ≡ b = omega arith in rw q at (later bytes count r a (b - suc a) (omega arith))

    by_order : (t : Bool) → ltb i j ≡ t → (u : Bool) → ltb j i ≡ u → i ≡ j
    by_order true t u v = absurd (lt_irrefl 0 (omega (arith, below i j (ltb-true i j t) k)))
    by_order false t true v = absurd (lt_irrefl 0 (omega (arith, below j i (ltb-true j i v) h)))
    by_order false t false v = omega (arith, ltb-false i j t, ltb-false j i v)

pub found-rising : (bytes : List ℕ) (count : ℕ) → ((i : ℕ) → i < count → kind_byte bytes i ≤ 5) → Rising bytes count → (j : ℕ) → j < count → found_in bytes count (id_at bytes j) ≡ entry_at bytes j
found-rising bytes count k r j h = found-distinct bytes count k (rising-distinct bytes count r) j h

-- `find_by_id` gives what these laws speak of, for a bank that was set and as many bytes
pub found-lent : (b : SoundBank) (bytes : List ℕ) (id : ℕ) → length bytes ≡ b.len → found_given (Some b) bytes id ≡ found_in bytes b.effect_count id
found-lent b bytes id e = rw (lent_same b (length bytes) e)
