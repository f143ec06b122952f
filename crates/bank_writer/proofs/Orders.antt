-- Two orders of the same entries with their payloads give the same bank, and the same answer where it is refused. Assumes nothing.
use Prim.Native.Nat.{ℕ}
use native.Mathlib.Omega.{arith}
use mathlib.Core.Path.{◌≡◌, refl, sym, ap, ◌∙◌}
use mathlib.Core.Bool.{Bool, true, false, cond, ◌||◌}
use mathlib.Core.List.{List, [], ◌∷◌, Permᴰ}
use lib.Dec.{ltb}
use lib.ListN.{length, take}
use Rattle.error.specs.Told.{Told, value, refused}
use Rattle.laws.specs.Lists.{All}
use Rattle.laws.proofs.Bools.{never}
use Rattle.bank_writer.specs.declared.NewEntry.{NewEntry}
use Rattle.bank_writer.specs.Order.{Part, id_of, paired}
use Rattle.bank_writer.specs.Layout.{entries_of, bank_bytes}
use Rattle.bank_writer.specs.Refusals.{some_of, outside, total_of, share_id, barred, bank_given}
use Rattle.bank_writer.specs.Places.{ids_of}
use Rattle.bank_writer.proofs.Order.{Apart, same-apart, any_order}
use Rattle.bank_writer.proofs.Ranks.{ids_in}
use Rattle.bank_writer.proofs.Given.{Differ, differs, none-shares, differ-apart, or-false}
use Rattle.bank_writer.proofs.Pairs.{entries-paired}
use Rattle.bank_writer.proofs.Written.{sound, sound-apart}

or_swap : (x y z : Bool) → (x || (y || z)) ≡ (y || (x || z))
or_swap true true z = refl
or_swap true false z = refl
or_swap false true z = refl
or_swap false false z = refl

some_same : (test : NewEntry → Bool) {a b : List Part} → Permᴰ a b → some_of test (entries_of a) ≡ some_of test (entries_of b)
unfolding some_of
some_same test Permᴰ.nil = refl
some_same test (Permᴰ.cons e d) = rw (e, some_same test d)
some_same test (Permᴰ.swap {a = x} {b = y} {l = l} e f) = rw (← e, ← f) (or_swap (test x.entry) (test y.entry) (some_of test (entries_of l)))
some_same test (Permᴰ.trans d e) = some_same test d ∙ some_same test e

total-same : {a b : List Part} → Permᴰ a b → total_of (entries_of a) ≡ total_of (entries_of b)
unfolding total_of
total-same Permᴰ.nil = refl
total-same (Permᴰ.cons e d) = rw (e, total-same d)
total-same (Permᴰ.swap {a = x} {b = y} {l = l} e f) = rw (← e, ← f) (omega arith)
total-same (Permᴰ.trans d e) = total-same d ∙ total-same e

ids-entries : (ps : List Part) → ids_of (entries_of ps) ≡ ids_in ps
ids-entries [] = refl
ids-entries (p ∷ ps) = ap (λ (l : List ℕ). id_of p ∷ l) (ids-entries ps)

all-parts : (x : ℕ) (ps : List Part) → All (λ q. x ≡ id_of q → ⊥) ps → All (λ y. x ≡ y → ⊥) (ids_in ps)
all-parts x [] h = tt
all-parts x (p ∷ ps) h = (h.0, all-parts x ps h.1)

apart-differ : (ps : List Part) → Apart ps → Differ (ids_in ps)
apart-differ [] h = tt
apart-differ (p ∷ ps) h = (all-parts (id_of p) ps h.0, apart-differ ps h.1)

share-kept : {a b : List Part} → Permᴰ a b → share_id (entries_of a) ≡ false → share_id (entries_of b) ≡ false
share-kept {a} {b} d e =
    let apart = differ-apart a (rw (ids-entries a) at (differs (entries_of a) e)) in
    none-shares (entries_of b) (rw (ids-entries b) (apart-differ b (same-apart d apart)))

back : {a b : List Part} → Permᴰ a b → Permᴰ b a
back Permᴰ.nil = Permᴰ.nil
back (Permᴰ.cons e d) = Permᴰ.cons (sym e) (back d)
back (Permᴰ.swap e f) = Permᴰ.swap (sym f) (sym e)
back (Permᴰ.trans d e) = Permᴰ.trans (back e) (back d)

share-same : {a b : List Part} → Permᴰ a b → share_id (entries_of a) ≡ share_id (entries_of b)
share-same {a} {b} d = by (share_id (entries_of a)) (share_id (entries_of b)) refl refl
  where
    by : (t u : Bool) → share_id (entries_of a) ≡ t → share_id (entries_of b) ≡ u → share_id (entries_of a) ≡ share_id (entries_of b)
    by true true e f = e ∙ sym f
    by false false e f = e ∙ sym f
    by false true e f = never (sym (share-kept d e) ∙ f)
    by true false e f = never (sym (share-kept (back d) f) ∙ e)

barred-same : (a b : List Part) (m n : ℕ) → Permᴰ a b → m ≡ n → barred (entries_of a) m ≡ barred (entries_of b) n
unfolding barred
barred-same a b m n d e = rw (some_same outside d, total-same d, share-same d, e)

-- "Two orders of the same entries with their payloads, under one header, give the same bank", of payloads that are equally many bytes
pub two-orders : (header : List ℕ) (es fs : List NewEntry) (count : ℕ) (payloads lent : List ℕ) (room : ℕ)
    → Permᴰ (paired (take count es) payloads) (paired (take count fs) lent) → length payloads ≡ length lent
    → bank_given header es count payloads room ≡ bank_given header fs count lent room
unfolding bank_given
two-orders header es fs count payloads lent room d n = rw bars (by (ltb 64 count || barred (take count fs) (length lent)) refl)
  where
    bars : barred (take count es) (length payloads) ≡ barred (take count fs) (length lent)
    bars =
        rw (entries-paired (take count es) payloads, entries-paired (take count fs) lent)
        at (barred-same (paired (take count es) payloads) (paired (take count fs) lent) (length payloads) (length lent) d n)

    given : List NewEntry → List ℕ → Bool → Told (List ℕ)
    given gs bytes t =
        cond t (refused 13)
        (cond (ltb room (length (bank_bytes header (paired (take count gs) bytes)))) (refused 14) (value (bank_bytes header (paired (take count gs) bytes))))

    by : (t : Bool) → (ltb 64 count || barred (take count fs) (length lent)) ≡ t → given es payloads t ≡ given fs lent t
    by true e = refl
    by false e =
        let o = or-false (ltb 64 count) (barred (take count fs) (length lent)) e in
        let s = sound (take count es) payloads (bars ∙ o.1) in
        rw (any_order d (sound-apart (take count es) payloads s))
