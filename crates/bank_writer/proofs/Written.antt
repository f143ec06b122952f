-- What is refused, how long a bank is, and that the cells written one after another are the bank. Assumes nothing.
use Prim.Native.Nat.{ℕ, zero, suc, ◌+◌, ◌*◌, ◌≤◌, ◌<◌}
use native.Mathlib.Nat.{lt_irrefl, zero-add}
use native.Mathlib.Omega.{arith}
use mathlib.Core.Path.{◌≡◌, refl, sym, ap, ◌∙◌}
use mathlib.Core.Bool.{true, false, not, ◌||◌}
use mathlib.Core.Logic.{⊎_elim}
use mathlib.Core.List.{List, [], ◌∷◌, ◌++◌}
use borrow.Author.Tests.{lt-ltb, le-ltb, eq-eqb, ne_eqb, eqb-true, not-false}
use lib.Dec.{eqb}
use lib.ListN.{length, get_or, take, drop, length-append, length-map}
use lib.Seq.{sets, sets-eq, length-take-le, get_or-take}
use Rattle.error.specs.Told.{Told, value, refused}
use Rattle.error.specs.declared.AudioError.TheVariants as E
use Rattle.std.specs.Prelude.{Ok, Err}
use Rattle.laws.specs.Lists.{All}
use Rattle.laws.proofs.Lists.{sets-append}
use Rattle.bank.specs.Entries.{place_of}
use Rattle.bank_writer.specs.declared.NewEntry.{NewEntry}
use Rattle.bank_writer.specs.Order.{Part, id_of, paired, inserted, by_id, no_entry}
use Rattle.bank_writer.specs.Layout.{entry_bytes, table, payloads_of, entries_of, laid_out, bank_bytes}
use Rattle.bank_writer.specs.Refusals.{some_of, outside, total_of, share_id, barred, bank_given, Wrote}
use Rattle.bank_writer.specs.Places.{ids_of, Ranked, picked_parts, picked_entries, slices_of, Starts, Cut}
use Rattle.bank_writer.proofs.Order.{le-or-gt, alone, before, behind, Apart}
use Rattle.bank_writer.proofs.Ranks.{ids_in, length-by-id, index_at, picked-sorted}
use Rattle.bank_writer.proofs.Given.{or-false, differs, none-shares, ranked-differ, differ-apart}
use Rattle.bank_writer.proofs.Pairs.{total-cons, total-nil, entries-paired, ids-paired, length-paired, paired_at, Sized, all-sized, starts_first, slices-picked, cut}
use Rattle.bank_writer.proofs.Turns.{length-entry}

-- ---- sizes

pub length-table : (offset : ℕ) (es : List NewEntry) → length (table offset es) ≡ 16 * length es
unfolding table
length-table offset [] = refl
length-table offset (e ∷ es) =
    omega (arith, length-append (entry_bytes e offset) (table (offset + e.len) es), length-entry e offset, length-table (offset + e.len) es)

pub payloads-cons : (p : Part) (ps : List Part) → payloads_of (p ∷ ps) ≡ p.payload ++ payloads_of ps
unfolding payloads_of
payloads-cons p ps = refl

abbrev bytes_in : List Part → ℕ
bytes_in ps = length (payloads_of ps)

bytes-cons : (p : Part) (ps : List Part) → bytes_in (p ∷ ps) ≡ length p.payload + bytes_in ps
bytes-cons p ps = rw (payloads-cons p ps) (length-append p.payload (payloads_of ps))

bytes-inserted : (p : Part) (qs : List Part) → bytes_in (inserted p qs) ≡ length p.payload + bytes_in qs
bytes-inserted p [] = rw (alone p) (bytes-cons p [])
bytes-inserted p (q ∷ qs) =
    ⊎_elim
    (λ (l : id_of q ≤ id_of p). rw (behind p q qs l) (omega (arith, bytes-cons q (inserted p qs), bytes-cons q qs, bytes-inserted p qs)))
    (λ (l : id_of p < id_of q). rw (before p q qs l) (bytes-cons p (q ∷ qs)))
    (le-or-gt (id_of q) (id_of p))

pub bytes-sorted : (ps : List Part) → bytes_in (by_id ps) ≡ bytes_in ps
unfolding by_id
bytes-sorted [] = refl
bytes-sorted (p ∷ ps) = bytes-inserted p (by_id ps) ∙ omega (arith, bytes-cons p ps, bytes-sorted ps)

bytes-nil : bytes_in [] ≡ 0
unfolding payloads_of
bytes-nil = refl

pub bytes-sized : (ps : List Part) → All Sized ps → bytes_in ps ≡ total_of (entries_of ps)
bytes-sized [] h = bytes-nil ∙ sym total-nil
bytes-sized (p ∷ ps) h = omega (arith, bytes-cons p ps, total-cons p.entry (entries_of ps), bytes-sized ps h.1, h.0)

-- ---- what is let through

pub record Sound (es : List NewEntry) (payloads : List ℕ) : Type 0 where
  pub inside : some_of outside es ≡ false
  pub adds : total_of es ≡ length payloads
  pub apart : share_id es ≡ false

module _ (es : List NewEntry) (lent : ℕ) where
  barred-outside : some_of outside es ≡ true → barred es lent ≡ true
  unfolding barred
  barred-outside h = rw h

  barred-total : some_of outside es ≡ false → (total_of es ≡ lent → ⊥) → barred es lent ≡ true
  unfolding barred
  barred-total h n = rw (h, ne_eqb (total_of es) lent n)

  barred-shared : some_of outside es ≡ false → total_of es ≡ lent → share_id es ≡ true → barred es lent ≡ true
  unfolding barred
  barred-shared h e s = rw (h, eq-eqb (total_of es) lent e, s)

  not-barred : some_of outside es ≡ false → total_of es ≡ lent → share_id es ≡ false → barred es lent ≡ false
  unfolding barred
  not-barred h e s = rw (h, eq-eqb (total_of es) lent e, s)

pub sound : (es : List NewEntry) (payloads : List ℕ) → barred es (length payloads) ≡ false → Sound es payloads
unfolding barred
sound es payloads h =
    let o = or-false (some_of outside es || not (eqb (total_of es) (length payloads))) (share_id es) h in
    let q = or-false (some_of outside es) (not (eqb (total_of es) (length payloads))) o.0 in
    record { inside = q.0; adds = eqb-true (total_of es) (length payloads) (not-false (eqb (total_of es) (length payloads)) q.1); apart = o.1 }

module _ (header : List ℕ) (es : List NewEntry) (count : ℕ) (payloads : List ℕ) (room : ℕ) where
  abbrev given : List NewEntry
  given = take count es

  abbrev bank : List ℕ
  bank = bank_bytes header (paired given payloads)

  abbrev answer : Told (List ℕ)
  answer = bank_given header es count payloads room

  pub too_many : 64 < count → answer ≡ refused 13
  unfolding bank_given
  too_many h = rw (lt-ltb 64 count h)

  is-barred : count ≤ 64 → barred given (length payloads) ≡ true → answer ≡ refused 13
  unfolding bank_given
  is-barred h e = rw (le-ltb 64 count h, e)

  pub some_out : count ≤ 64 → some_of outside given ≡ true → answer ≡ refused 13
  some_out h e = is-barred h (barred-outside given (length payloads) e)

  pub not-adding : count ≤ 64 → some_of outside given ≡ false → (total_of given ≡ length payloads → ⊥) → answer ≡ refused 13
  not-adding h e n = is-barred h (barred-total given (length payloads) e n)

  pub sharing : count ≤ 64 → some_of outside given ≡ false → total_of given ≡ length payloads → share_id given ≡ true → answer ≡ refused 13
  sharing h e t s = is-barred h (barred-shared given (length payloads) e t s)

  pub too_short : count ≤ 64 → Sound given payloads → room < length bank → answer ≡ refused 14
  unfolding bank_given
  too_short h s l = rw (le-ltb 64 count h, not-barred given (length payloads) s.inside s.adds s.apart, lt-ltb room (length bank) l)

  pub fitting : count ≤ 64 → Sound given payloads → length bank ≤ room → answer ≡ value bank
  unfolding bank_given
  fitting h s l = rw (le-ltb 64 count h, not-barred given (length payloads) s.inside s.adds s.apart, le-ltb room (length bank) l)

pub sound-apart : (es : List NewEntry) (payloads : List ℕ) → Sound es payloads → Apart (paired es payloads)
sound-apart es payloads s = differ-apart (paired es payloads) (rw (ids-paired es payloads) (differs es s.apart))

pub sound-bytes : (es : List NewEntry) (payloads : List ℕ) → total_of es ≡ length payloads → length (payloads_of (by_id (paired es payloads))) ≡ length payloads
sound-bytes es payloads t =
    let e : total_of (entries_of (paired es payloads)) ≡ total_of es = ap total_of (entries-paired es payloads) in
    omega (arith, bytes-sorted (paired es payloads), bytes-sized (paired es payloads) (all-sized es payloads (omega arith)))

pub laid-is : (header : List ℕ) (ps : List Part) → laid_out header ps ≡ header ++ table (place_of (length ps)) (entries_of ps) ++ payloads_of ps
unfolding laid_out
laid-is header ps = refl

-- a bank's length
pub bank-length : (header : List ℕ) (es : List NewEntry) (payloads : List ℕ) → length header ≡ 10 → total_of es ≡ length payloads
    → length (bank_bytes header (paired es payloads)) ≡ place_of (length es) + length payloads
bank-length header es payloads h t =
    let ps = paired es payloads in
    let tab = table (place_of (length (by_id ps))) (entries_of (by_id ps)) in
    let m : length (entries_of (by_id ps)) ≡ length (by_id ps) = length-map (by_id ps) (λ (p : Part). p.entry) in
    rw (laid-is header (by_id ps))
    (omega (arith, length-append (header ++ tab) (payloads_of (by_id ps)), length-append header tab, length-table (place_of (length (by_id ps))) (entries_of (by_id ps)), length-by-id ps, length-paired es payloads, sound-bytes es payloads t))

-- ---- the cells

all-below : (m n : ℕ) (l : List ℕ) → n ≤ length l → ((k : ℕ) → k < n → get_or l k 0 < m) → All (λ i. i < m) (take n l)
all-below m zero l h f = tt
all-below m (suc n) [] h f = absurd (lt_irrefl 0 (omega arith))
all-below m (suc n) (x ∷ l) h f = (f 0 (omega arith), all-below m n l (omega arith) (λ k w. f (suc k) (omega arith)))

entries-picked : (es : List NewEntry) (count : ℕ) (b order : List ℕ) → count ≤ length es → All (λ i. i < count) order
    → entries_of (picked_parts (paired (take count es) b) order) ≡ picked_entries es order
entries-picked es count b [] h a = refl
entries-picked es count b (i ∷ order) h a =
    let e : length (take count es) ≡ count = length-take-le count es h in
    rw (paired_at (take count es) b i (omega (arith, a.0)), get_or-take count es i no_entry a.0, entries-picked es count b order h a.1)

-- three runs of cells, each behind the one before
three : (out x y z : List ℕ) (a b : ℕ) → length x ≡ a → length x + length y ≡ b → sets (sets (sets out 0 x) a y) b z ≡ sets out 0 (x ++ y ++ z)
three out x y z a b h k =
    let e : a ≡ 0 + length x = omega arith in
    let f : b ≡ 0 + length (x ++ y) = omega (arith, length-append x y) in
    rw (e, sets-append out 0 x y, f) (sets-append out 0 (x ++ y) z)

-- what is known before the first cell is written
pub record Seen (header : List ℕ) (es : List NewEntry) (count : ℕ) (payloads starts places : List ℕ) : Type 0 where
  pub ten : length header ≡ 10
  pub all : length es ≡ 64
  pub few : count ≤ 64
  pub inside : some_of outside (take count es) ≡ false
  pub begins : Starts es starts
  pub adds : total_of (take count es) ≡ length payloads
  pub ranked : Ranked (ids_of (take count es)) places count
  pub long : length places ≡ 64

module _ (header : List ℕ) (es : List NewEntry) (count : ℕ) (payloads starts places : List ℕ) (seen : Seen header es count payloads starts places) where
  few : count ≤ length es
  few = omega (arith, seen.few, seen.all)

  abbrev given' : List NewEntry
  given' = take count es

  abbrev parts : List Part
  parts = paired given' payloads

  size : length parts ≡ count
  size = length-paired given' payloads ∙ length-take-le count es few

  ranked' : Ranked (ids_in parts) places (length parts)
  ranked' = rw (ids-paired given' payloads, size) seen.ranked

  pub none-share : share_id given' ≡ false
  none-share =
      let e : length (ids_of given') ≡ count = length-map given' (λ (e : NewEntry). e.id) ∙ length-take-le count es few in
      none-shares given' (ranked-differ (ids_of given') places (rw e seen.ranked))

  apart : Apart parts
  apart = differ-apart parts (rw (ids-paired given' payloads) (differs given' none-share))

  pub place-within : (k : ℕ) → k < count → get_or places k 0 < count
  place-within k h = omega (arith, (index_at parts places apart ranked' k (omega (arith, size))).0, size)

  order : picked_parts parts (take count places) ≡ by_id parts
  order = rw size at (picked-sorted parts places apart (omega (arith, size, seen.few, seen.long)) ranked')

  within : All (λ i. i < count) (take count places)
  within = all-below count count places (omega (arith, seen.few, seen.long)) place-within

  pub seen-sound : Sound given' payloads
  seen-sound = record { inside = seen.inside; adds = seen.adds; apart = none-share }

  pub seen-length : length (bank_bytes header parts) ≡ place_of count + length payloads
  seen-length = rw (length-take-le count es few) at (bank-length header given' payloads seen.ten seen.adds)

  pub seen-cut : (k : ℕ) → k < count → (get_or places k 0 < 64) × Cut starts payloads (get_or places k 0)
  seen-cut k h =
      let e : length given' ≡ count = length-take-le count es few in
      let w = place-within k h in
      (omega (arith, seen.few), cut given' starts payloads (starts_first es starts count few seen.begins) (get_or places k 0) (omega arith) seen.adds)

  pub slices-are : slices_of starts payloads (take count places) ≡ payloads_of (by_id parts)
  slices-are =
      let e : length given' ≡ count = length-take-le count es few in
      slices-picked given' starts payloads (starts_first es starts count few seen.begins) (take count places) (rw e within) ∙ ap payloads_of order

  pub seen-slices : length (slices_of starts payloads (take count places)) ≡ length payloads
  seen-slices = ap length slices-are ∙ sound-bytes given' payloads seen.adds

  table_is : table (place_of count) (picked_entries es (take count places)) ≡ table (place_of (length (by_id parts))) (entries_of (by_id parts))
  table_is =
      let e : length (by_id parts) ≡ count = length-by-id parts ∙ size in
      rw (e, ← order, entries-picked es count payloads (take count places) few within)

  -- what is written is the bank, and the cells behind it are as they were
  pub laid : (out : List ℕ) → length (bank_bytes header parts) ≤ length out
      → sets (sets (sets out 0 header) 10 (table (place_of count) (picked_entries es (take count places)))) (place_of count) (slices_of starts payloads (take count places))
      ≡ bank_bytes header parts ++ drop (length (bank_bytes header parts)) out
  laid out fits =
      let tab = table (place_of (length (by_id parts))) (entries_of (by_id parts)) in
      let m : length (entries_of (by_id parts)) ≡ length (by_id parts) = length-map (by_id parts) (λ (p : Part). p.entry) in
      let n : length header + length tab ≡ place_of count = omega (arith, seen.ten, length-table (place_of (length (by_id parts))) (entries_of (by_id parts)), length-by-id parts, size) in
      let w : length (header ++ tab ++ payloads_of (by_id parts)) ≤ length out = rw (laid-is header (by_id parts)) at fits in
      rw (laid-is header (by_id parts), table_is, slices-are, three out header tab (payloads_of (by_id parts)) 10 (place_of count) seen.ten n)
      (sets-eq (header ++ tab ++ payloads_of (by_id parts)) out 0 (omega arith) ∙ rw (zero-add (length (header ++ tab ++ payloads_of (by_id parts)))))

-- ---- the answer

pub wrote-13 : {t : Told (List ℕ)} (cells : List ℕ) → t ≡ refused 13 → Wrote t cells cells (Err E.BadEntries)
wrote-13 cells e = record { answer = rw e; cells = rw e }

pub wrote-14 : {t : Told (List ℕ)} (cells : List ℕ) → t ≡ refused 14 → Wrote t cells cells (Err E.ShortBuffer)
wrote-14 cells e = record { answer = rw e; cells = rw e }

pub wrote-bank : {t : Told (List ℕ)} (bytes before after : List ℕ) (n : ℕ) → t ≡ value bytes → n ≡ length bytes → after ≡ bytes ++ drop (length bytes) before → Wrote t before after (Ok n)
wrote-bank bytes before after n e f g = record { answer = rw (e, f); cells = rw e g }
