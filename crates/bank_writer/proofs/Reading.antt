-- What is read back of a bank that was written. Assumes nothing.
use Prim.Native.Nat.{ℕ, zero, suc, ◌+◌, ◌*◌, ◌/◌, ◌%◌, ◌≤◌, ◌<◌}
use native.Mathlib.Nat.{lt_irrefl}
use native.Mathlib.Omega.{arith}
use mathlib.Core.Path.{◌≡◌, refl, sym, ap, ◌∙◌}
use mathlib.Core.Bool.{Bool, true, false, cond, ◌||◌}
use mathlib.Core.Logic.{⊎_elim}
use mathlib.Core.List.{List, [], ◌∷◌, ◌++◌}
use borrow.Author.Tests.{lt-ltb, le-ltb, le-leb, ltb-false}
use lib.Dec.{ltb}
use lib.ListN.{length, get_or, take, drop, length-append, length-map, length-take, get_or-append, get_or-map}
use lib.Seq.{get_or-append-add, drop-append-add, take_at}
use Rattle.error.specs.Told.{Told, value, refused, and_then}
use Rattle.error.proofs.Told.{value-is, not-refused}
use Rattle.tier.specs.declared.EffectKind.{EffectKind}
use Rattle.tier.specs.Kinds.{kind_of}
use Rattle.laws.specs.Lists.{All}
use Rattle.laws.proofs.Lists.{all-get, all-imp}
use Rattle.bank.specs.Entries.{byte_at, little16_at, little32_at, place_of, id_at, kind_byte, fields_at, entry_at}
use Rattle.bank.specs.Banks.{bank_of, payload_under}
use Rattle.bank.specs.Search.{found_in}
use Rattle.bank.proofs.Laws.{lent_same}
use Rattle.bank.proofs.Found as F
use Rattle.bank_writer.specs.declared.NewEntry.{NewEntry}
use Rattle.bank_writer.specs.Order.{Part, id_of, Rising, paired, inserted, by_id, no_entry, no_part}
use Rattle.bank_writer.specs.Layout.{entry_bytes, table, payloads_of, entries_of, laid_out, bank_bytes}
use Rattle.bank_writer.specs.Refusals.{total_of, barred, bank_given}
use Rattle.bank_writer.specs.Places.{rank}
use Rattle.bank_writer.specs.Reading.{Typed, read_as, lower_bytes, offset_of, set_at, ReadBack}
use Rattle.bank_writer.proofs.Order.{le-or-gt, alone, before, behind, Apart, by-id-rises, by-id-all}
use Rattle.bank_writer.proofs.Ranks.{ids_in, length-by-id, at-rank, rank_below, rising-lt}
use Rattle.bank_writer.proofs.Given.{or-false, Allowed, all-allowed}
use Rattle.bank_writer.proofs.Pairs.{total-nil, total-cons, total-step, total-le, length-paired, Sized, all-sized}
use Rattle.bank_writer.proofs.Turns.{length-entry, table-cons}
use Rattle.bank_writer.proofs.Written.{length-table, payloads-cons, laid-is, Sound, sound, sound-apart, bytes-sized}

-- ---- the cells of an entry

pub table-cell : (off : ℕ) (es : List NewEntry) (k j : ℕ) → k < length es → j < 16
    → get_or (table off es) (16 * k + j) 0 ≡ get_or (entry_bytes (get_or es k no_entry) (off + total_of (take k es))) j 0
table-cell off [] k j h l = absurd (lt_irrefl 0 (omega arith))
table-cell off (e ∷ es) zero j h l =
    let z : 16 * 0 + j ≡ j = omega arith in
    let o : off + total_of [] ≡ off = omega (arith, total-nil) in
    rw (z, table-cons off e es, o) (get_or-append (entry_bytes e off) (table (off + e.len) es) 0 j (rw length-entry l))
table-cell off (e ∷ es) (suc k) j h l =
    let z : 16 * suc k + j ≡ length (entry_bytes e off) + (16 * k + j) = omega (arith, length-entry e off) in
    let o : off + total_of (e ∷ take k es) ≡ off + e.len + total_of (take k es) = omega (arith, total-cons e (take k es)) in
    rw (z, table-cons off e es, o)
    (get_or-append-add (entry_bytes e off) (table (off + e.len) es) (16 * k + j) 0 ∙ table-cell (off + e.len) es k j (omega arith) l)

-- where the payload at place k begins
abbrev pub offset_at : List Part → ℕ → ℕ
offset_at s k = place_of (length s) + total_of (take k (entries_of s))

pub entries_at : (s : List Part) (k : ℕ) → get_or (entries_of s) k no_entry ≡ (get_or s k no_part).entry
entries_at s k = get_or-map (λ (p : Part). p.entry) s k no_part

pub length-entries : (s : List Part) → length (entries_of s) ≡ length s
length-entries s = length-map s (λ (p : Part). p.entry)

abbrev pub Cells : List ℕ → ℕ → NewEntry → ℕ → Type 0
Cells bytes k e offset = (j m : ℕ) → j < 16 → m ≡ place_of k + j → get_or bytes m 0 ≡ get_or (entry_bytes e offset) j 0

pub bank-cell : (header : List ℕ) (s : List Part) → length header ≡ 10 → (k : ℕ) → k < length s → Cells (laid_out header s) k (get_or s k no_part).entry (offset_at s k)
bank-cell header s ten k h j m l e =
    let tab = table (place_of (length s)) (entries_of s) in
    let n = length-entries s in
    let w : m < length (header ++ tab) = omega (arith, length-append header tab, length-table (place_of (length s)) (entries_of s)) in
    let z : m ≡ length header + (16 * k + j) = omega arith in
    rw (laid-is header s)
    (get_or-append (header ++ tab) (payloads_of s) 0 m w
    ∙ rw (z, ← entries_at s k) (get_or-append-add header tab (16 * k + j) 0 ∙ table-cell (place_of (length s)) (entries_of s) k j (omega arith) l))

-- ---- an entry read from its cells

two : (lo hi x : ℕ) → lo ≡ x % 256 → hi ≡ x / 256 % 256 → x < 65536 → lo + 256 * hi ≡ x
two lo hi x e f h = omega arith

low : (lo hi x : ℕ) → lo ≡ x % 256 → hi ≡ x / 256 % 256 → lo + 256 * hi ≡ x % 65536
low lo hi x e f = omega arith

four : (a b c d x : ℕ) → a ≡ x % 256 → b ≡ x / 256 % 256 → c ≡ x / 65536 % 256 → d ≡ x / 65536 / 256 % 256 → x < 4294967296
    → a + 256 * b + 65536 * (c + 256 * d) ≡ x
four a b c d x e f g i h =
    let y = low a b x e f in
    let z = two c d (x / 65536) g i (omega arith) in
    omega arith

module _ (bytes : List ℕ) (k : ℕ) (e : NewEntry) (o : ℕ) (t : Typed e) (n : e.len ≤ 65535) (f : o < 4294967296) (cell : Cells bytes k e o) where
  pub read-id : id_at bytes k ≡ e.id
  unfolding entry_bytes
  read-id = two (byte_at bytes (place_of k)) (byte_at bytes (place_of k + 1)) e.id (cell 0 (place_of k) (omega arith) (omega arith)) (cell 1 (place_of k + 1) (omega arith) refl) t.id

  pub read-kind : kind_byte bytes k ≡ e.kind
  unfolding entry_bytes
  read-kind = cell 2 (place_of k + 2) (omega arith) refl

  read-param0 : little16_at bytes (place_of k + 6) ≡ e.param0
  unfolding entry_bytes
  read-param0 = two (byte_at bytes (place_of k + 6)) (byte_at bytes (place_of k + 6 + 1)) e.param0 (cell 6 (place_of k + 6) (omega arith) refl) (cell 7 (place_of k + 6 + 1) (omega arith) (omega arith)) t.param0

  read-param1 : little16_at bytes (place_of k + 8) ≡ e.param1
  unfolding entry_bytes
  read-param1 = two (byte_at bytes (place_of k + 8)) (byte_at bytes (place_of k + 8 + 1)) e.param1 (cell 8 (place_of k + 8) (omega arith) refl) (cell 9 (place_of k + 8 + 1) (omega arith) (omega arith)) t.param1

  read-offset : little32_at bytes (place_of k + 10) ≡ o
  unfolding entry_bytes
  read-offset =
      four (byte_at bytes (place_of k + 10)) (byte_at bytes (place_of k + 10 + 1)) (byte_at bytes (place_of k + 10 + 2)) (byte_at bytes (place_of k + 10 + 2 + 1)) o
      (cell 10 (place_of k + 10) (omega arith) refl)
      (cell 11 (place_of k + 10 + 1) (omega arith) (omega arith))
      (cell 12 (place_of k + 10 + 2) (omega arith) (omega arith))
      (cell 13 (place_of k + 10 + 2 + 1) (omega arith) (omega arith))
      f

  read-len : little16_at bytes (place_of k + 14) ≡ e.len
  unfolding entry_bytes
  read-len = two (byte_at bytes (place_of k + 14)) (byte_at bytes (place_of k + 14 + 1)) e.len (cell 14 (place_of k + 14) (omega arith) refl) (cell 15 (place_of k + 14 + 1) (omega arith) (omega arith)) (omega arith)

  read_flags : byte_at bytes (place_of k + 3) ≡ e.flags
  unfolding entry_bytes
  read_flags = cell 3 (place_of k + 3) (omega arith) refl

  read-gain : byte_at bytes (place_of k + 4) ≡ e.default_gain_q8
  unfolding entry_bytes
  read-gain = cell 4 (place_of k + 4) (omega arith) refl

  read-fields : (r : Told EffectKind) → and_then r (λ z. value (fields_at bytes k z)) ≡ read_as e o r
  unfolding fields_at
  read-fields (refused n) = refl
  read-fields (value kind) = rw (read-id, read_flags, read-gain, read-param0, read-param1, read-offset, read-len)

  pub read-entry : entry_at bytes k ≡ read_as e o (kind_of e.kind)
  unfolding entry_at
  read-entry = rw read-kind (read-fields (kind_of e.kind))

-- ---- a payload

pub payload-at : (s : List Part) (k : ℕ) → All Sized s → k < length s → take (get_or s k no_part).entry.len (drop (total_of (take k (entries_of s))) (payloads_of s)) ≡ (get_or s k no_part).payload
payload-at [] k a h = absurd (lt_irrefl 0 (omega arith))
payload-at (p ∷ s) zero a h = rw (total-nil, payloads-cons p s) (take_at p.payload (payloads_of s) p.entry.len a.0)
payload-at (p ∷ s) (suc k) a h =
    let e : total_of (p.entry ∷ take k (entries_of s)) ≡ length p.payload + total_of (take k (entries_of s)) = omega (arith, total-cons p.entry (take k (entries_of s)), a.0) in
    rw (e, payloads-cons p s, drop-append-add p.payload (payloads_of s) (total_of (take k (entries_of s)))) (payload-at s k a.1 (omega arith))

pub bank-payload : (header : List ℕ) (s : List Part) → length header ≡ 10 → All Sized s → (k : ℕ) → k < length s
    → take (get_or s k no_part).entry.len (drop (offset_at s k) (laid_out header s)) ≡ (get_or s k no_part).payload
bank-payload header s ten a k h =
    let tab = table (place_of (length s)) (entries_of s) in
    let n = length-entries s in
    let e : offset_at s k ≡ length (header ++ tab) + total_of (take k (entries_of s)) = omega (arith, length-append header tab, length-table (place_of (length s)) (entries_of s)) in
    rw (e, laid-is header s, drop-append-add (header ++ tab) (payloads_of s) (total_of (take k (entries_of s)))) (payload-at s k a h)

-- ---- where it begins

lower-nil : (id : ℕ) → lower_bytes id [] ≡ 0
unfolding lower_bytes
lower-nil id = refl

module _ (id : ℕ) (p : Part) (ps : List Part) where
  lower-low : id_of p < id → lower_bytes id (p ∷ ps) ≡ p.entry.len + lower_bytes id ps
  unfolding lower_bytes
  lower-low h = rw (lt-ltb (id_of p) id h)

  lower_high : id ≤ id_of p → lower_bytes id (p ∷ ps) ≡ lower_bytes id ps
  unfolding lower_bytes
  lower_high h = rw (le-ltb (id_of p) id h) (omega arith)

lower-more : (id : ℕ) (p : Part) (a b : List Part) → lower_bytes id a ≡ lower_bytes id b → lower_bytes id (p ∷ a) ≡ lower_bytes id (p ∷ b)
unfolding lower_bytes
lower-more id p a b e = rw e

lower-swap : (id : ℕ) (p q : Part) (l : List Part) → lower_bytes id (p ∷ q ∷ l) ≡ lower_bytes id (q ∷ p ∷ l)
unfolding lower_bytes
lower-swap id p q l = omega arith

lower-inserted : (id : ℕ) (p : Part) (qs : List Part) → lower_bytes id (inserted p qs) ≡ lower_bytes id (p ∷ qs)
lower-inserted id p [] = rw alone
lower-inserted id p (q ∷ qs) =
    ⊎_elim
    (λ (l : id_of q ≤ id_of p). rw (behind p q qs l) (lower-more id q (inserted p qs) (p ∷ qs) (lower-inserted id p qs) ∙ lower-swap id q p qs))
    (λ (l : id_of p < id_of q). rw (before p q qs l))
    (le-or-gt (id_of q) (id_of p))

lower-sorted : (id : ℕ) (ps : List Part) → lower_bytes id (by_id ps) ≡ lower_bytes id ps
unfolding by_id
lower-sorted id [] = refl
lower-sorted id (p ∷ ps) = lower-inserted id p (by_id ps) ∙ lower-more id p (by_id ps) ps (lower-sorted id ps)

lower-none : (id : ℕ) (qs : List Part) → All (λ q. id ≤ id_of q) qs → lower_bytes id qs ≡ 0
lower-none id [] h = lower-nil id
lower-none id (q ∷ qs) h = lower_high id q qs h.0 ∙ lower-none id qs h.1

lower-at : (s : List Part) (k : ℕ) → Rising s → k < length s → lower_bytes (id_of (get_or s k no_part)) s ≡ total_of (take k (entries_of s))
lower-at [] k r h = absurd (lt_irrefl 0 (omega arith))
lower-at (p ∷ s) zero r h =
    lower_high (id_of p) p s (omega arith) ∙ lower-none (id_of p) s (all-imp (λ q. id_of p < id_of q) (λ q. id_of p ≤ id_of q) (λ q l. omega arith) s r.0) ∙ sym total-nil
lower-at (p ∷ s) (suc k) r h =
    let l : id_of p < id_of (get_or s k no_part) = all-get (λ q. id_of p < id_of q) s k no_part r.0 (omega arith) in
    lower-low (id_of (get_or s k no_part)) p s l ∙ omega (arith, lower-at s k r.1 (omega arith), total-cons p.entry (take k (entries_of s)))

-- ---- the whole bank

total-bound : (es : List NewEntry) → All Allowed es → total_of es ≤ 65535 * length es
total-bound [] a = omega (arith, total-nil)
total-bound (e ∷ es) a = omega (arith, total-cons e es, total-bound es a.1, a.0.size)

-- what is asked of each entry
pub record Good (p : Part) : Type 0 where
  pub typed : Typed p.entry
  pub allowed : Allowed p.entry
  pub sized : Sized p

all-entries : (s : List Part) → All Good s → All Allowed (entries_of s)
all-entries [] a = tt
all-entries (p ∷ s) a = (a.0.allowed, all-entries s a.1)

module _ (header : List ℕ) (s : List Part) (ten : length header ≡ 10) (rises : Rising s) (good : All Good s) (few : length s ≤ 64) where
  abbrev bank : List ℕ
  bank = laid_out header s

  good-at : (k : ℕ) → k < length s → Good (get_or s k no_part)
  good-at k h = all-get Good s k no_part good h

  offset-fits : (k : ℕ) → offset_at s k < 4294967296
  offset-fits k =
      let n = length-entries s in
      omega (arith, total-le (entries_of s) k, total-bound (entries_of s) (all-entries s good))

  module _ (k : ℕ) (h : k < length s) where
    abbrev this : NewEntry
    this = (get_or s k no_part).entry

    pub entry-back : entry_at bank k ≡ read_as this (offset_at s k) (kind_of this.kind)
    entry-back = read-entry bank k this (offset_at s k) (good-at k h).typed (good-at k h).allowed.size (offset-fits k) (bank-cell header s ten k h)

    id-back : id_at bank k ≡ id_of (get_or s k no_part)
    id-back = read-id bank k this (offset_at s k) (good-at k h).typed (good-at k h).allowed.size (offset-fits k) (bank-cell header s ten k h)

    kind-back : kind_byte bank k ≤ 5
    kind-back =
        let e = read-kind bank k this (offset_at s k) (good-at k h).typed (good-at k h).allowed.size (offset-fits k) (bank-cell header s ten k h) in
        omega (arith, (good-at k h).allowed.kind)

  bank-rises : F.Rising bank (length s)
  bank-rises i h = omega (arith, id-back i (omega arith), id-back (suc i) h, rising-lt s i (suc i) rises (omega arith) h)

  found_back : (k : ℕ) → k < length s → found_in bank (length s) (id_of (get_or s k no_part)) ≡ read_as (get_or s k no_part).entry (offset_at s k) (kind_of (get_or s k no_part).entry.kind)
  found_back k h = (rw (id-back k h) at (F.found-rising bank (length s) kind-back bank-rises k h)) ∙ entry-back k h

  missing-back : (id : ℕ) → All (λ q. id_of q ≡ id → ⊥) s → found_in bank (length s) id ≡ refused 8
  missing-back id a = F.found-absent bank (length s) id kind-back (λ i h e. all-get (λ q. id_of q ≡ id → ⊥) s i no_part a h (sym (id-back i h) ∙ e))

-- ---- for the entries as they were given

module _ (header : List ℕ) (ps : List Part) (ten : length header ≡ 10) (apart : Apart ps) (good : All Good ps) (few : length ps ≤ 64) (rate : ℕ) (slow : rate ≤ 65537) where
  abbrev s : List Part
  s = by_id ps

  abbrev whole : List ℕ
  whole = bank_bytes header ps

  sorted-good : All Good s
  sorted-good = by-id-all Good ps good

  sorted-few : length s ≤ 64
  sorted-few = omega (arith, length-by-id ps)

  sized : All Sized s
  sized = all-imp Good Sized (λ p g. g.sized) s sorted-good

  long : length whole ≡ place_of (length s) + total_of (entries_of s)
  long =
      let tab = table (place_of (length s)) (entries_of s) in
      let n = length-entries s in
      rw (laid-is header s) (omega (arith, length-append (header ++ tab) (payloads_of s), length-append header tab, length-table (place_of (length s)) (entries_of s), bytes-sized s sized))

  module _ (i : ℕ) (h : i < length ps) where
    abbrev p : Part
    p = get_or ps i no_part

    abbrev k : ℕ
    k = rank (ids_in ps) i

    same : get_or s k no_part ≡ p
    same = at-rank ps i h apart

    below : k < length s
    below = rank_below ps i h

    offset : offset_of ps p ≡ offset_at s k
    offset =
        let e : lower_bytes (id_of p) ps ≡ total_of (take k (entries_of s)) = sym (lower-sorted (id_of p) ps) ∙ (rw same at (lower-at s k (by-id-rises ps apart) below)) in
        omega (arith, length-by-id ps)

    found-one : found_in whole (length ps) (id_of p) ≡ read_as p.entry (offset_of ps p) (kind_of p.entry.kind)
    found-one = rw (offset, ← length-by-id ps) (rw same at (found_back header s ten (by-id-rises ps apart) sorted-good sorted-few k below))

    payload-one : take p.entry.len (drop (offset_of ps p) whole) ≡ p.payload
    payload-one = rw offset (rw same at (bank-payload header s ten sized k below))

    within : offset_of ps p + p.entry.len ≤ length whole
    within =
        let n = length-entries s in
        let e : (get_or (entries_of s) k no_entry).len ≡ p.entry.len = ap (λ (x : NewEntry). x.len) (entries_at s k) ∙ ap (λ (q : Part). q.entry.len) same in
        omega (arith, long, offset, total-le (entries_of s) (k + 1), total-step (entries_of s) k (omega (arith, below)))

  pub read-parts : ReadBack ps whole rate
  unfolding bank_of payload_under
  read-parts =
      let b = set_at rate ps whole in
      let n = length-by-id ps in
      let w : place_of (length ps) ≤ length whole = omega (arith, long) in
      record {
        setting = rw (le-ltb 65537 rate slow, le-ltb (length whole) (place_of (length ps)) w);
        known = λ i h. (all-get Good ps i no_part good h).allowed.kind;
        found = λ i h. F.found-lent b whole (id_of (get_or ps i no_part)) refl ∙ found-one i h;
        number = λ parted i h. rw (lent_same b (length whole) refl, le-leb (offset_of ps (get_or ps i no_part) + (get_or ps i no_part).entry.len) (length whole) (within i h));
        payload = λ i h. rw (lent_same b (length whole) refl, le-leb (offset_of ps (get_or ps i no_part) + (get_or ps i no_part).entry.len) (length whole) (within i h)) (payload-one i h);
        missing = λ id a. F.found-lent b whole id refl ∙ rw (← n) (missing-back header s ten (by-id-rises ps apart) sorted-good sorted-few id (by-id-all (λ q. id_of q ≡ id → ⊥) ps a));
      }

-- ---- for the call

-- a bank that is given
pub record Accepted (header : List ℕ) (es : List NewEntry) (count : ℕ) (payloads : List ℕ) (room : ℕ) (bank : List ℕ) : Type 0 where
  pub few : count ≤ 64
  pub sound : Sound (take count es) payloads
  pub same : bank ≡ bank_bytes header (paired (take count es) payloads)
  pub fits : length bank ≤ room

pub accepted : (header : List ℕ) (es : List NewEntry) (count : ℕ) (payloads : List ℕ) (room : ℕ) {bank : List ℕ} → bank_given header es count payloads room ≡ value bank
    → Accepted header es count payloads room bank
unfolding bank_given
accepted header es count payloads room {bank} e = by_tests (ltb 64 count || barred (take count es) (length payloads)) refl (ltb room (length all)) refl e
  where
    all : List ℕ
    all = bank_bytes header (paired (take count es) payloads)

    by_tests : (t : Bool) → (ltb 64 count || barred (take count es) (length payloads)) ≡ t → (u : Bool) → ltb room (length all) ≡ u
        → cond t (refused 13) (cond u (refused 14) (value all)) ≡ value bank → Accepted header es count payloads room bank
    by_tests true f u g e = not-refused (sym e)
    by_tests false f true g e = not-refused (sym e)
    by_tests false f false g e =
        let o = or-false (ltb 64 count) (barred (take count es) (length payloads)) f in
        let q : all ≡ bank = value-is e in
        record {
          few = ltb-false 64 count o.0;
          sound = sound (take count es) payloads o.1;
          same = sym q;
          fits = rw (← q) (ltb-false room (length all) g);
        }

all-good : (es : List NewEntry) (b : List ℕ) → All Typed es → All Allowed es → All Sized (paired es b) → All Good (paired es b)
unfolding paired
all-good [] b t a n = tt
all-good (e ∷ es) b t a n = (record { typed = t.0; allowed = a.0; sized = n.0 }, all-good es (drop e.len b) t.1 a.1 n.1)

-- "With the bank set at its count, the search finds each entry written and payload lookup returns its bytes."
pub read_back : (header : List ℕ) (es : List NewEntry) (count : ℕ) (payloads : List ℕ) (room : ℕ) {bank : List ℕ} → length header ≡ 10 → All Typed (take count es)
    → bank_given header es count payloads room ≡ value bank → (rate : ℕ) → rate ≤ 65537 → ReadBack (paired (take count es) payloads) bank rate
read_back header es count payloads room ten typed e rate slow =
    let a = accepted header es count payloads room e in
    let given = take count es in
    let n : length given ≤ count = omega (arith, length-take count es) in
    rw a.same
    (read-parts header (paired given payloads) ten (sound-apart given payloads a.sound)
    (all-good given payloads typed (all-allowed given a.sound.inside) (all-sized given payloads (omega (arith, a.sound.adds))))
    (omega (arith, length-paired given payloads, a.few)) rate slow)
