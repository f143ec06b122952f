-- The tests that refuse with 13, as loops make them, and what they let through. Assumes nothing.
use Prim.Native.Nat.{ℕ, zero, suc, ◌≤◌, ◌<◌}
use native.Mathlib.Nat.{lt_irrefl}
use native.Mathlib.Omega.{arith}
use mathlib.Core.Path.{◌≡◌, refl, sym, ap, ◌∙◌}
use mathlib.Core.Bool.{Bool, true, false, ◌||◌}
use mathlib.Core.List.{List, [], ◌∷◌}
use borrow.Author.Tests.{ne_eqb, eqb-false, ltb-false}
use Rattle.std.specs.Bool.{MatchBool}
use Rattle.std.specs.List.{HoldsAt, AllWithin}
use lib.Dec.{eqb, ltb}
use lib.ListN.{length, get_or}
use Rattle.laws.specs.Lists.{All}
use Rattle.laws.proofs.Bools.{never}
use Rattle.laws.proofs.Lists.{all-get, all-imp}
use Rattle.bank_writer.specs.declared.NewEntry.{NewEntry}
use Rattle.bank_writer.specs.Order.{Part, id_of}
use Rattle.bank_writer.specs.Refusals.{some_of, outside, share_id}
use Rattle.bank_writer.specs.Places.{ids_of, below, rank, Ranked, Shared}
use Rattle.bank_writer.proofs.Order.{Apart}
use Rattle.bank_writer.proofs.Ranks.{ids_in}

pub or-false : (a b : Bool) → (a || b) ≡ false → (a ≡ false) × (b ≡ false)
or-false true b e = never (sym e)
or-false false b e = (refl, e)

or-true : (a : Bool) → (a || true) ≡ true
or-true true = refl
or-true false = refl

-- ---- a test of each

module _ {A : Type 0} (test : A → Bool) where
  some-nil : some_of test [] ≡ false
  unfolding some_of
  some-nil = refl

  some-cons : (x : A) (l : List A) → some_of test (x ∷ l) ≡ (test x || some_of test l)
  unfolding some_of
  some-cons x l = refl

  some-at : (k : ℕ) (l : List A) → k < length l → HoldsAt (λ x. test x ≡ true) l k → some_of test l ≡ true
  some-at k [] h p = absurd (lt_irrefl 0 (omega arith))
  some-at zero (x ∷ l) h p = rw (some-cons x l, p x)
  some-at (suc k) (x ∷ l) h p = rw (some-cons x l, some-at k l (omega arith) p) (or-true (test x))

  none-within : (l : List A) → AllWithin (λ x. test x ≡ false) l 0 (length l) → some_of test l ≡ false
  none-within [] h = some-nil
  none-within (x ∷ l) h = rw (some-cons x l, h 0 x (omega arith) (omega arith)) (none-within l (λ k d a b. h (suc k) d (omega arith) (omega arith)))

  -- what `any` answers
  pub some-cases : (r : Bool) (l : List A) → MatchBool r ((k : ℕ) × (k < length l) × HoldsAt (λ x. test x ≡ true) l k) (AllWithin (λ x. test x ≡ false) l 0 (length l)) → r ≡ some_of test l
  some-cases true l m = sym (some-at m.0 l m.1 m.2)
  some-cases false l m = sym (none-within l m)

  pub some-none : (l : List A) → some_of test l ≡ false → All (λ x. test x ≡ false) l
  some-none [] e = tt
  some-none (x ∷ l) e = let o = or-false (test x) (some_of test l) (sym (some-cons x l) ∙ e) in (o.0, some-none l o.1)

  pub none-some : (l : List A) → All (λ x. test x ≡ false) l → some_of test l ≡ false
  none-some [] h = some-nil
  none-some (x ∷ l) h = rw (some-cons x l, h.0) (none-some l h.1)

-- an entry that is let through
pub record Allowed (e : NewEntry) : Type 0 where
  pub kind : e.kind ≤ 5
  pub size : e.len ≤ 65535

allowed : (e : NewEntry) → outside e ≡ false → Allowed e
allowed e h =
    let o = or-false (ltb 5 e.kind) (ltb 65535 e.len) h in
    record { kind = ltb-false 5 e.kind o.0; size = ltb-false 65535 e.len o.1 }

pub all-allowed : (es : List NewEntry) → some_of outside es ≡ false → All Allowed es
all-allowed es h = all-imp (λ e. outside e ≡ false) Allowed allowed es (some-none outside es h)

-- ---- ids that differ

abbrev pub Differ : List ℕ → Type 0
Differ [] = Unit {0}
Differ (x ∷ l) = All (λ y. x ≡ y → ⊥) l × Differ l

share-cons : (e : NewEntry) (es : List NewEntry) → share_id (e ∷ es) ≡ (some_of (λ (f : NewEntry). eqb e.id f.id) es || share_id es)
unfolding share_id
share-cons e es = refl

share-nil : share_id [] ≡ false
unfolding share_id
share-nil = refl

tests-ids : (x : ℕ) (es : List NewEntry) → All (λ f. eqb x f.id ≡ false) es → All (λ y. x ≡ y → ⊥) (ids_of es)
tests-ids x [] h = tt
tests-ids x (f ∷ es) h = (eqb-false x f.id h.0, tests-ids x es h.1)

ids-tests : (x : ℕ) (es : List NewEntry) → All (λ y. x ≡ y → ⊥) (ids_of es) → All (λ f. eqb x f.id ≡ false) es
ids-tests x [] h = tt
ids-tests x (f ∷ es) h = (ne_eqb x f.id h.0, ids-tests x es h.1)

pub differs : (es : List NewEntry) → share_id es ≡ false → Differ (ids_of es)
differs [] h = tt
differs (e ∷ es) h =
    let test : NewEntry → Bool = λ f. eqb e.id f.id in
    let o = or-false (some_of test es) (share_id es) (sym (share-cons e es) ∙ h) in
    (tests-ids e.id es (some-none test es o.0), differs es o.1)

pub none-shares : (es : List NewEntry) → Differ (ids_of es) → share_id es ≡ false
none-shares [] h = share-nil
none-shares (e ∷ es) h =
    let test : NewEntry → Bool = λ f. eqb e.id f.id in
    rw (share-cons e es, none-some test es (ids-tests e.id es h.0)) (none-shares es h.1)

differ-at : (l : List ℕ) (i j : ℕ) → Differ l → i < j → j < length l → get_or l i 0 ≡ get_or l j 0 → ⊥
differ-at [] i j d h k = absurd (lt_irrefl 0 (omega arith))
differ-at (x ∷ l) zero zero d h k = absurd (lt_irrefl 0 (omega arith))
differ-at (x ∷ l) zero (suc j) d h k = all-get (λ y. x ≡ y → ⊥) l j 0 d.0 (omega arith)
differ-at (x ∷ l) (suc i) zero d h k = absurd (lt_irrefl 0 (omega arith))
differ-at (x ∷ l) (suc i) (suc j) d h k = differ-at l i j d.1 (omega arith) (omega arith)

all-at : (P : ℕ → Type 0) (l : List ℕ) → ((j : ℕ) → j < length l → P (get_or l j 0)) → All P l
all-at P [] f = tt
all-at P (x ∷ l) f = (f 0 (omega arith), all-at P l (λ j h. f (suc j) (omega arith)))

at-differ : (l : List ℕ) → ((i j : ℕ) → i < j → j < length l → get_or l i 0 ≡ get_or l j 0 → ⊥) → Differ l
at-differ [] f = tt
at-differ (x ∷ l) f =
    (all-at (λ y. x ≡ y → ⊥) l (λ j h. f 0 (suc j) (omega arith) (omega arith)), at-differ l (λ i j h k. f (suc i) (suc j) (omega arith) (omega arith)))

-- two that share an id are found
pub shares : (es : List NewEntry) → Shared (ids_of es) → share_id es ≡ true
shares es s = by (share_id es) refl
  where
    by : (t : Bool) → share_id es ≡ t → share_id es ≡ true
    by true e = e
    by false e = absurd (differ-at (ids_of es) s.first s.second (differs es e) s.earlier s.within s.same)

-- where each has its place, none do
pub ranked-differ : (ids places : List ℕ) → Ranked ids places (length ids) → Differ ids
ranked-differ ids places ranked =
    at-differ ids (λ i j h k e.
    let s : rank ids i ≡ rank ids j = ap (λ (x : ℕ). below x ids) e in
    let one : get_or places (rank ids j) 0 ≡ i = rw s at (ranked i (omega arith)) in
    let two = ranked j k in
    absurd (lt_irrefl 0 (omega arith)))

all_ids : (x : ℕ) (ps : List Part) → All (λ y. x ≡ y → ⊥) (ids_in ps) → All (λ q. x ≡ id_of q → ⊥) ps
all_ids x [] h = tt
all_ids x (p ∷ ps) h = (h.0, all_ids x ps h.1)

pub differ-apart : (ps : List Part) → Differ (ids_in ps) → Apart ps
differ-apart [] h = tt
differ-apart (p ∷ ps) h = (all_ids (id_of p) ps h.0, differ-apart ps h.1)
