-- Demand 3, from the laws of the allocation. Assumes nothing.
use Prim.Native.Nat.{ℕ}
use native.Mathlib.Omega.{arith}
use mathlib.Core.Path.{◌≡◌, refl, ap, sym, ◌∙◌}
use mathlib.Core.Logic.{◌⊎◌, ⊎_elim, inl, inr}
use mathlib.Core.Bool.{Bool, true, false, cond, false≢true}
use mathlib.Core.List.{List, [], ◌∷◌, ◌++◌, Perm, append-nil, Memᴰ}
use mathlib.Core.Option.{Option, none, some, or_else, none-ne-some, some-ne-none, some-injective}
use lib.ListN.{length, take, get_elem?}
use lib.Seq.{take_all}
use Rattle.ranking.specs.Falling.{inserted, falling}
use Rattle.laws.specs.Lists.{only}
use Rattle.ranking.specs.Box.{Box, handed_at, priorities, asks, handed, after_all, last_got}
use Rattle.ranking.specs.Demand.{Lawful, Demand}
use Rattle.ranking.proofs.Falling.{length-falling, first-of-both}
use Rattle.ranking.proofs.Ranks.{falling-counted, length-ranks, falling-perm}
use Rattle.ranking.proofs.Step.{length-stored, elsewhere, there, first_of}

module _ {A : Type 0} where
  -- the last of a list that begins with r: x is the last of the rest, t says whether r is one
  last_none : (x : Option A) (t : Bool) (r : A) → or_else x (cond t (some r) none) ≡ none → (x ≡ none) × (t ≡ false)
  unfolding or_else
  last_none none true r e = absurd (some-ne-none r e)
  last_none none false r e = (refl, refl)
  last_none (some q) t r e = absurd (some-ne-none q e)

  last_some : (x : Option A) (t : Bool) (r q : A) → or_else x (cond t (some r) none) ≡ some q → (x ≡ some q) ⊎ ((x ≡ none) × (t ≡ true) × (r ≡ q))
  unfolding or_else
  last_some none true r q e = inr (refl, refl, some-injective r q e)
  last_some none false r q e = absurd (none-ne-some q e)
  last_some (some p) t r q e = inl e

module _ {State Voice Request : Type 0} (b : Box State Voice Request) {Kept : State → Type 0} (laws : Lawful b Kept) where
  length-next : (s : State) (r : Request) → Kept s → length (b.voices (b.next s r)) ≡ length (b.voices s)
  length-next s r k = ap length (laws.stores s r k) ∙ length-stored (b.voices s) (handed b s r) (b.started r)

  length-all : (s : State) (rs : List Request) → Kept s → length (b.voices (after_all b s rs)) ≡ length (b.voices s)
  unfolding after_all
  length-all s [] k = refl
  length-all s (r ∷ rs) k = length-all (b.next s r) rs (laws.stays s r k) ∙ length-next s r k

  unsound : (s : State) (r : Request) → Kept s → b.sound r ≡ false → b.voices (b.next s r) ≡ b.voices s
  unfolding handed
  unsound s r k e = laws.stores s r k ∙ rw e

  kept : (i : ℕ) (s : State) (r : Request) → Kept s → handed_at i (handed b s r) ≡ false → get_elem? (b.voices (b.next s r)) i ≡ get_elem? (b.voices s) i
  kept i s r k e = ap (λ (vs : List Voice). get_elem? vs i) (laws.stores s r k) ∙ elsewhere (b.voices s) i (handed b s r) (b.started r) e

  unchanged : (i : ℕ) (s : State) (rs : List Request) → Kept s → last_got b i s rs ≡ none → get_elem? (b.voices (after_all b s rs)) i ≡ get_elem? (b.voices s) i
  unfolding last_got after_all
  unchanged i s [] k e = refl
  unchanged i s (r ∷ rs) k e =
      let n = last_none (last_got b i (b.next s r) rs) (handed_at i (handed b s r)) r e in
      unchanged i (b.next s r) rs (laws.stays s r k) n.0 ∙ kept i s r k n.1

  step : (s : State) (r : Request) → Kept s → b.sound r ≡ true
      → falling (priorities b (b.next s r)) ≡ take (length (b.voices s)) (inserted (b.asked r) (falling (priorities b s)))
  unfolding handed
  step s r k e =
      rw (laws.stores s r k, e)
      (first_of b.audible b.priority (b.voices s) (b.asked r) (b.started r) (laws.sounds r e) (laws.keeps r e) (laws.allows s (b.asked r) k))

  -- what the rest of the list finds is as good as what the request found, and the request
  carried : (s : State) (r : Request) (rs : List Request) (t : Bool) → Kept s → b.sound r ≡ t
      → take (length (b.voices (b.next s r))) (falling (priorities b (b.next s r) ++ asks b rs))
      ≡ take (length (b.voices s)) (falling (priorities b s ++ asks b (r ∷ rs)))
  unfolding falling
  carried s r rs true k e =
      rw (length-next s r k, falling-counted b.sound b.asked (priorities b s) r rs, e)
      (first-of-both (length (b.voices s)) (priorities b (b.next s r)) (b.asked r ∷ priorities b s) (asks b rs) (step s r k e))
  carried s r rs false k e = rw (unsound s r k e, falling-counted b.sound b.asked (priorities b s) r rs, e)

  ranked : (s : State) (rs : List Request) → Kept s
      → falling (priorities b (after_all b s rs)) ≡ take (length (b.voices s)) (falling (priorities b s ++ asks b rs))
  unfolding after_all only
  ranked s [] k =
      rw (append-nil (priorities b s))
      (sym (take_all (length (b.voices s)) (falling (priorities b s)) (omega (arith, length-falling (priorities b s), length-ranks b.audible b.priority (b.voices s)))))
  ranked s (r ∷ rs) k = ranked (b.next s r) rs (laws.stays s r k) ∙ carried s r rs (b.sound r) k refl

  any_order : (s : State) (rs rs' : List Request) → Kept s → Perm rs rs'
      → falling (priorities b (after_all b s rs)) ≡ falling (priorities b (after_all b s rs'))
  any_order s rs rs' k p = rw (ranked s rs k, ranked s rs' k, falling-perm b.sound b.asked (priorities b s) rs rs' p)

  -- a place that a request is handed
  place : (i : ℕ) (s : State) (r : Request) (t : Bool) → Kept s → b.sound r ≡ t → handed_at i (handed b s r) ≡ true
      → (get_elem? (b.voices (b.next s r)) i ≡ some (b.started r)) × (b.sound r ≡ true)
  unfolding handed
  place i s r true k e h =
      (rw (laws.stores s r k, e) (there b.audible b.priority (b.voices s) (b.asked r) i (b.started r) (laws.allows s (b.asked r) k) (rw e at h)), e)
  place i s r false k e h = absurd (false≢true (rw e at h))

  got : (i : ℕ) (s : State) (rs : List Request) (q : Request) → Kept s → last_got b i s rs ≡ some q
      → (get_elem? (b.voices (after_all b s rs)) i ≡ some (b.started q)) × (b.sound q ≡ true) × Memᴰ q rs
  unfolding last_got after_all
  got i s [] q k e = absurd (none-ne-some q e)
  got i s (r ∷ rs) q k e =
      ⊎_elim
      (λ x. let g = got i (b.next s r) rs q (laws.stays s r k) x in (g.0, g.1, Memᴰ.tail g.2))
      (λ x.
      let g = place i s r (b.sound r) k refl x.1 in
      (unchanged i (b.next s r) rs (laws.stays s r k) x.0 ∙ rw (← x.2) g.0, rw (← x.2) g.1, Memᴰ.head (sym x.2)))
      (last_some (last_got b i (b.next s r) rs) (handed_at i (handed b s r)) r q e)

  -- demand 3
  pub demand : (s : State) (rs : List Request) → Kept s → Demand b Kept s rs
  demand s rs k =
      record {
        ranked = ranked s rs k;
        unchanged = λ i e. unchanged i s rs k e;
        last = λ i r e. (got i s rs r k e).0;
        got = λ i r e. let g = got i s rs r k e in (g.1, g.2);
        any_order = λ rs' p. any_order s rs rs' k p;
        voices = length-all s rs k;
      }
