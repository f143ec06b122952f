-- Entries with their payloads, and the places at which the payloads begin. Assumes nothing.
use Prim.Native.Nat.{ℕ, zero, suc, ◌+◌, ◌-◌, ◌≤◌, ◌<◌}
use native.Mathlib.Nat.{lt_irrefl}
use native.Mathlib.Numerals.{add-one}
use native.Mathlib.Omega.{arith}
use mathlib.Core.Path.{◌≡◌, refl, ap, ◌∙◌}
use mathlib.Core.List.{List, [], ◌∷◌}
use lib.ListN.{length, get_or, take, drop, length-drop}
use lib.Seq.{drop-drop, take-take, length-take-le}
use Rattle.laws.specs.Lists.{All}
use Rattle.bank_writer.specs.declared.NewEntry.{NewEntry}
use Rattle.bank_writer.specs.Order.{Part, paired, no_entry, no_part}
use Rattle.bank_writer.specs.Layout.{entries_of, payloads_of}
use Rattle.bank_writer.specs.Refusals.{total_of}
use Rattle.bank_writer.specs.Places.{ids_of, picked_parts, slices_of, Starts, Cut}
use Rattle.bank_writer.proofs.Ranks.{ids_in}

pub total-nil : total_of [] ≡ 0
unfolding total_of
total-nil = refl

pub total-cons : (e : NewEntry) (es : List NewEntry) → total_of (e ∷ es) ≡ e.len + total_of es
unfolding total_of
total-cons e es = refl

pub paired-cons : (e : NewEntry) (es : List NewEntry) (b : List ℕ) → paired (e ∷ es) b ≡ record { entry = e; payload = take e.len b } ∷ paired es (drop e.len b)
unfolding paired
paired-cons e es b = refl

pub entries-paired : (es : List NewEntry) (b : List ℕ) → entries_of (paired es b) ≡ es
unfolding paired
entries-paired [] b = refl
entries-paired (e ∷ es) b = ap (λ (r : List NewEntry). e ∷ r) (entries-paired es (drop e.len b))

pub ids-paired : (es : List NewEntry) (b : List ℕ) → ids_in (paired es b) ≡ ids_of es
unfolding paired
ids-paired [] b = refl
ids-paired (e ∷ es) b = ap (λ (r : List ℕ). e.id ∷ r) (ids-paired es (drop e.len b))

pub length-paired : (es : List NewEntry) (b : List ℕ) → length (paired es b) ≡ length es
unfolding paired
length-paired [] b = refl
length-paired (e ∷ es) b = ap suc (length-paired es (drop e.len b))

-- one more length
pub total-step : (es : List NewEntry) (i : ℕ) → i < length es → total_of (take (i + 1) es) ≡ total_of (take i es) + (get_or es i no_entry).len
total-step [] i h = absurd (lt_irrefl 0 (omega arith))
total-step (e ∷ es) zero h = omega (arith, total-cons e [], total-nil)
total-step (e ∷ es) (suc i) h =
    let k = total-step es i (omega arith) in
    let one : total_of (take (i + 1) es) ≡ total_of (take (suc i) es) = rw (add-one i) in
    rw (add-one (suc i)) (omega (arith, total-cons e (take (suc i) es), total-cons e (take i es)))

pub total-le : (es : List NewEntry) (i : ℕ) → total_of (take i es) ≤ total_of es
total-le es zero = omega (arith, total-nil)
total-le [] (suc i) = omega arith
total-le (e ∷ es) (suc i) = omega (arith, total-cons e es, total-cons e (take i es), total-le es i)

-- the payload of entry i lies behind those before it
pub paired_at : (es : List NewEntry) (b : List ℕ) (i : ℕ) → i < length es
    → get_or (paired es b) i no_part ≡ record { entry = get_or es i no_entry; payload = take (get_or es i no_entry).len (drop (total_of (take i es)) b) }
paired_at [] b i h = absurd (lt_irrefl 0 (omega arith))
paired_at (e ∷ es) b zero h = rw (paired-cons e es b, total-nil)
paired_at (e ∷ es) b (suc i) h =
    rw (paired-cons e es b, paired_at es (drop e.len b) i (omega arith), drop-drop (total_of (take i es)) e.len b, total-cons e (take i es))

-- each payload has its length
abbrev pub Sized : Part → Type 0
Sized p = length p.payload ≡ p.entry.len

pub all-sized : (es : List NewEntry) (b : List ℕ) → total_of es ≤ length b → All Sized (paired es b)
unfolding paired
all-sized [] b h = tt
all-sized (e ∷ es) b h =
    let n = total-cons e es in
    (length-take-le e.len b (omega arith), all-sized es (drop e.len b) (rw length-drop (omega arith)))

-- the starts of the first n
pub starts_first : (es : List NewEntry) (starts : List ℕ) (n : ℕ) → n ≤ length es → Starts es starts → Starts (take n es) starts
starts_first es starts n h s i k =
    let e : length (take n es) ≡ n = length-take-le n es h in
    s i (omega arith) ∙ rw (take-take i n es (omega arith))

module _ (es : List NewEntry) (starts b : List ℕ) (s : Starts es starts) where
  -- from one start to the next
  pub cut : (i : ℕ) → i < length es → total_of es ≡ length b → Cut starts b i
  cut i h t =
      let one = s i (omega arith) in
      let two = s (i + 1) (omega arith) in
      let n = total-step es i h in
      let m = total-le es (i + 1) in
      record { ordered = omega arith; within = omega arith }

  pub slices-picked : (order : List ℕ) → All (λ i. i < length es) order → slices_of starts b order ≡ payloads_of (picked_parts (paired es b) order)
  unfolding slices_of payloads_of
  slices-picked [] h = refl
  slices-picked (i ∷ order) h =
      let one = s i (omega (arith, h.0)) in
      let two = s (i + 1) (omega (arith, h.0)) in
      let n = total-step es i h.0 in
      let e : get_or starts (i + 1) 0 - get_or starts i 0 ≡ (get_or es i no_entry).len = omega arith in
      rw (e, one, paired_at es b i h.0, slices-picked order h.1)
