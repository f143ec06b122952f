-- Cells written one after another, and in two runs. Assumes nothing.
use Prim.Native.Nat.{ℕ, suc, ◌+◌, ◌-◌, ◌≤◌, ◌<◌}
use native.Mathlib.Omega.{arith}
use mathlib.Core.Path.{◌≡◌, refl, sym, ap, ◌∙◌}
use mathlib.Core.Logic.{◌⊎◌, inl, inr}
use native.Mathlib.Decide.{dec_le}
use mathlib.Core.List.{List, ◌++◌}
use lib.ListN.{length, get_or, take, drop, set, length-set, length-append, length-drop, get_or-append}
use lib.Seq.{get_or-set_same, get_or-set_other, ext_get_or, get_or-drop, get_or-append-add, get_or-append_right, get_or-take, length-take-le}
use lib.IntN.{ℤ, pos, nat_abs, ◌+ℤ◌}
use Rattle.std.proofs.lemmas.List.{set-append_left}
use Rattle.laws.proofs.Signed.{add≤}
use Rattle.block.specs.Cells.{Written, Within, Scaled, Added}

pub le-or-gt : (a b : ℕ) → (a ≤ b) ⊎ (b < a)
le-or-gt a b = go (dec_le a b)
  where
    go : Dec (a ≤ b) → (a ≤ b) ⊎ (b < a)
    go (yes h) = inl h
    go (no h) = inr (omega (arith, h))

module _ {A : Type 0} {d : A} {f : ℕ → A} where
  pub written_none : {a b : ℕ} {l : List A} → b ≤ a → Written d f a b l l
  written_none h = record { size = refl; there = λ j k l. absurd (omega arith); before = λ j k. refl; behind = λ j k. refl }

  -- the next cell
  pub written_next : {from to : ℕ} {was is : List A} (at next : ℕ) (v : A) → Written d f from to was is → from ≤ to → at ≡ to → next ≡ suc to
      → to < length was → v ≡ f to → Written d f from next was (set is at v)
  written_next {from} {to} {was} {is} at next v w o e g l h =
      let b : at < length is = omega (arith, w.size) in
      record {
        size = rw length-set w.size;
        there = λ j k m.
            elim (le-or-gt to j) [
              | inl p ↦ (let q : j ≡ to = omega arith in rw (q, ← e, get_or-set_same is at v d b, h, e))
              | inr p ↦ rw (get_or-set_other is at j v d (λ q. omega arith)) (w.there j k p)
            ];
        before = λ j k. rw (get_or-set_other is at j v d (λ q. omega arith)) (w.before j k);
        behind = λ j k. rw (get_or-set_other is at j v d (λ q. omega arith)) (w.behind j (omega arith));
      }

  -- one run after another
  pub written_both : {a b c : ℕ} {was mid is : List A} → Written d f a b was mid → Written d f b c mid is → a ≤ b → b ≤ c → Written d f a c was is
  written_both {a} {b} {c} v w h k =
      record {
        size = w.size ∙ v.size;
        there = λ j l m.
            elim (le-or-gt b j) [
              | inl p ↦ w.there j p m
              | inr p ↦ w.before j p ∙ v.there j l p
            ];
        before = λ j l. w.before j (omega arith) ∙ v.before j l;
        behind = λ j l. w.behind j l ∙ v.behind j (omega arith);
      }

  -- the cells of a part, as a whole with the rest
  pub written_part : {n : ℕ} {was is : List A} (a k : ℕ) → k ≡ n → a + n ≤ length was → Written d f 0 n (take n (drop a was)) is
      → Written d (λ j. f (j - a)) a (a + n) was (take a was ++ (is ++ drop k (drop a was)))
  written_part {n} {was} {is} a k e h w =
      let t : length (take a was) ≡ a = length-take-le a was (omega arith) in
      let l : length is ≡ n = w.size ∙ length-take-le n (drop a was) (omega (arith, length-drop a was)) in
      let rest = drop k (drop a was) in
      record {
        size = rw (length-append, length-append, length-drop, length-drop) (omega arith);
        there = λ j p m.
            get_or-append_right (take a was) (is ++ rest) j d (omega arith)
            ∙ rw t (get_or-append is rest d (j - a) (omega arith) ∙ w.there (j - a) (omega arith) (omega arith));
        before = λ j p. get_or-append (take a was) (is ++ rest) d j (omega arith) ∙ get_or-take a was j d p;
        behind = λ j p.
            let q : a + (k + (j - a - length is)) ≡ j = omega arith in
            get_or-append_right (take a was) (is ++ rest) j d (omega arith)
            ∙ rw t (get_or-append_right is rest (j - a) d (omega arith) ∙ rw (get_or-drop, get_or-drop, q));
      }

  -- the whole, as a list before the rest
  pub written-whole : {n : ℕ} {was is : List A} (l : List A) → Written d f 0 n was is → n ≤ length was → length l ≡ n
      → ((j : ℕ) → j < n → get_or l j d ≡ f j) → is ≡ l ++ drop n was
  written-whole {n} {was} {is} l w h e g =
      let s : length (l ++ drop n was) ≡ length was = rw (length-append, length-drop) (omega arith) in
      ext_get_or d is (l ++ drop n was) (w.size ∙ sym s) (λ j k.
      elim (le-or-gt n j) [
        | inl p ↦
            (let q : j ≡ length l + (j - n) = omega arith in
            w.behind j p ∙ sym (ap (λ (i : ℕ). get_or (l ++ drop n was) i d) q ∙ get_or-append-add l (drop n was) (j - n) d ∙ rw get_or-drop (ap (λ (i : ℕ). get_or was i d) (omega arith))))
        | inr p ↦ w.there j (omega arith) p ∙ sym (get_or-append l (drop n was) d j (omega arith) ∙ g j p)
      ])

-- the same cells under another name
pub written_as : {A : Type 0} {d : A} {f g : ℕ → A} {a b : ℕ} {was is : List A} → ((j : ℕ) → a ≤ j → j < b → f j ≡ g j) → Written d f a b was is
    → Written d g a b was is
written_as e w = record { size = w.size; there = λ j k l. w.there j k l ∙ e j k l; before = w.before; behind = w.behind }

-- ---- sums and counts

pub added_none : (samples : List ℤ) (gain : ℕ) (l : List ℤ) → Added samples gain 0 l l
added_none samples gain l = record { cells = written_none (omega arith); grown = λ b h j. omega (arith, h j) }

-- the cell that a turn adds to
pub added-old : {samples : List ℤ} {gain k : ℕ} {was is : List ℤ} {b : ℕ} → Added samples gain k was is → Within b was → nat_abs (get_or is k (pos 0)) ≤ b
added-old {k = k} a h = rw (a.cells.behind k (omega arith)) (h k)

pub added_next : {samples : List ℤ} {gain k : ℕ} {was is : List ℤ} (r v : ℤ) → Added samples gain k was is → length was ≡ 256 → k < 256
    → v ≡ get_or is k (pos 0) +ℤ r → Scaled (get_or samples k (pos 0)) gain r → Added samples gain (k + 1) was (set is k v)
added_next {samples} {gain} {k} {was} {is} r v a l h e s =
    let o : get_or is k (pos 0) ≡ get_or was k (pos 0) = a.cells.behind k (omega arith) in
    let there : k < length is = omega (arith, a.cells.size) in
    record {
      cells = written_next k (k + 1) v a.cells (omega arith) refl (omega arith) (omega arith) (rw (e, o, s.value));
      grown = λ b w j.
          elim (le-or-gt k j) [
            | inl p ↦
                (elim (le-or-gt (suc k) j) [
                  | inl q ↦ rw (get_or-set_other is k j v (pos 0) (λ z. omega arith)) (a.grown b w j)
                  | inr q ↦
                      (let z : j ≡ k = omega arith in
                      rw (z, get_or-set_same is k v (pos 0) there, e, o) (add≤ (get_or was k (pos 0)) r b 128 (w k) s.small))
                ])
            | inr p ↦ rw (get_or-set_other is k j v (pos 0) (λ z. omega arith)) (a.grown b w j)
          ];
    }

-- the same where the cells that are added to are the front of a whole
pub added_front : {samples : List ℤ} {gain k : ℕ} {was : List ℤ} (items rest : List ℤ) (r v : ℤ) → Added samples gain k was (items ++ rest) → length was ≡ 256 → k < 256
    → k < length items → v ≡ get_or items k (pos 0) +ℤ r → Scaled (get_or samples k (pos 0)) gain r → Added samples gain (k + 1) was (set items k v ++ rest)
added_front {samples} {gain} {k} {was} items rest r v a l h i e s =
    let o : get_or (items ++ rest) k (pos 0) ≡ get_or items k (pos 0) = get_or-append items rest (pos 0) k i in
    rw (← set-append_left items rest k v i) (added_next r v a l h (rw o e) s)
