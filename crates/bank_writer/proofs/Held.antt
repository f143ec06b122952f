-- A bank that was written holds its entries, as Holds says. Assumes nothing.
use Prim.Native.Nat.{ℕ, ◌+◌, ◌≤◌, ◌<◌}
use native.Mathlib.Omega.{arith}
use mathlib.Core.Path.{◌≡◌, refl}
use mathlib.Core.List.{List, [], ◌∷◌, ◌++◌, append_assoc}
use lib.ListN.{length, get_or, take, length-append}
use lib.Seq.{take_at}
use Rattle.laws.specs.Lists.{All}
use Rattle.laws.proofs.Lists.{all-imp}
use Rattle.bank.specs.Entries.{place_of}
use Rattle.bank_writer.specs.declared.NewEntry.{NewEntry}
use Rattle.bank_writer.specs.Order.{Part, Rising, no_part}
use Rattle.bank_writer.specs.Layout.{entry_bytes, table, payloads_of, entries_of, laid_out}
use Rattle.bank_writer.specs.Reading.{Typed, Holds}
use Rattle.bank_writer.proofs.Given.{Allowed}
use Rattle.bank_writer.proofs.Pairs.{Sized}
use Rattle.bank_writer.proofs.Written.{length-table, laid-is, bytes-sized}
use Rattle.bank_writer.proofs.Reading.{Good, bank-cell, bank-payload, entry-back, length-entries, offset_at}

abbrev Bytes : List ℕ → Type 0
Bytes l = All (λ b. b < 256) l

both : (a b : List ℕ) → Bytes a → Bytes b → Bytes (a ++ b)
both [] b h k = k
both (x ∷ a) b h k = (h.0, both a b h.1 k)

entry-bytes : (e : NewEntry) (o : ℕ) → Typed e → Allowed e → Bytes (entry_bytes e o)
unfolding entry_bytes
entry-bytes e o t a =
    (omega arith, (omega arith, (omega (arith, a.kind), (t.flags, (t.gain, (omega arith, (omega arith, (omega arith, (omega arith, (omega arith, (omega arith, (omega arith, (omega arith, (omega arith, (omega arith, (omega arith, tt))))))))))))))))

table-bytes : (o : ℕ) (s : List Part) → All Good s → Bytes (table o (entries_of s))
unfolding table
table-bytes o [] g = tt
table-bytes o (p ∷ s) g = both (entry_bytes p.entry o) (table (o + p.entry.len) (entries_of s)) (entry-bytes p.entry o g.0.typed g.0.allowed) (table-bytes (o + p.entry.len) s g.1)

payload-bytes : (s : List Part) → All (λ p. Bytes p.payload) s → Bytes (payloads_of s)
unfolding payloads_of
payload-bytes [] g = tt
payload-bytes (p ∷ s) g = both p.payload (payloads_of s) g.0 (payload-bytes s g.1)

fifth : (e : NewEntry) (o : ℕ) {x : ℕ} → x ≡ get_or (entry_bytes e o) 5 0 → x ≡ 0
unfolding entry_bytes
fifth e o h = h

pub bank-holds : (header : List ℕ) (s : List Part) → length header ≡ 10 → All (λ b. b < 256) header → Rising s → All Good s → All (λ p. All (λ b. b < 256) p.payload) s → length s ≤ 64
    → Holds header s (laid_out header s)
bank-holds header s ten head rises good bytes few =
    record {
      size = rw (laid-is header s) (omega (arith, length-append (header ++ tab) (payloads_of s), length-append header tab, length-table (place_of (length s)) (entries_of s), length-entries s, bytes-sized s sized));
      cells = rw (laid-is header s) (both (header ++ tab) (payloads_of s) (both header tab head (table-bytes (place_of (length s)) s good)) (payload-bytes s bytes));
      head = rw (laid-is header s) (first ten);
      entry = λ k h. entry-back header s ten rises good few k h;
      unread = λ k h. unread k h;
      payload = λ k h. bank-payload header s ten sized k h;
    }
  where
    tab : List ℕ
    tab = table (place_of (length s)) (entries_of s)

    sized : All Sized s
    sized = all-imp Good Sized (λ p g. g.sized) s good

    first : length header ≡ 10 → take 10 (header ++ tab ++ payloads_of s) ≡ header
    first e = rw append_assoc (take_at header (tab ++ payloads_of s) 10 e)

    unread : (k : ℕ) → k < length s → get_or (laid_out header s) (place_of k + 5) 0 ≡ 0
    unread k h = fifth (get_or s k no_part).entry (offset_at s k) (bank-cell header s ten k h 5 (place_of k + 5) (omega arith) refl)
