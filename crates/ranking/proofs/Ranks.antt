-- The ranks, in falling order, of those of a list that pass a test. Voices rank by priority where audible, requests by the priority
-- asked where sound. Assumes nothing.
use Prim.Native.Nat.{ℕ, zero, suc, ◌≤◌}
use native.Mathlib.Omega.{arith}
use native.Mathlib.Nat.{ℕ_set}
use mathlib.Core.Path.{◌≡◌, refl, ap, ◌∙◌}
use mathlib.Core.Logic.{∥∥₁_elim}
use mathlib.Core.Bool.{Bool, true, false, cond}
use mathlib.Core.List.{List, [], ◌∷◌, ◌++◌, map, is_set, Perm, Permᴰ}
use mathlib.Core.Option.{some, none-ne-some, some-injective}
use lib.ListN.{length, set, get_elem?}
use Rattle.ranking.specs.Falling.{inserted, falling}
use Rattle.laws.specs.Lists.{only, All}
use Rattle.ranking.proofs.Falling.{inserted-swap, falling-middle}

abbrev inserted_if : Bool → ℕ → List ℕ → List ℕ
inserted_if t p s = cond t (inserted p s) s

both-swap : (t u : Bool) (p q : ℕ) (s : List ℕ) → inserted_if t p (inserted_if u q s) ≡ inserted_if u q (inserted_if t p s)
both-swap true true p q s = inserted-swap p q s
both-swap true false p q s = refl
both-swap false true p q s = refl
both-swap false false p q s = refl

module _ {A : Type 0} (test : A → Bool) (rank : A → ℕ) where
  abbrev pub ranks : List A → List ℕ
  ranks l = map rank (only test l)

  -- s with x's rank, if x passes
  abbrev pub counted : A → List ℕ → List ℕ
  counted x s = inserted_if (test x) (rank x) s

  counted-swap : (x y : A) (s : List ℕ) → counted x (counted y s) ≡ counted y (counted x s)
  counted-swap x y s = both-swap (test x) (test y) (rank x) (rank y) s

  pub falling-counted : (k : List ℕ) (x : A) (l : List A) → falling (k ++ ranks (x ∷ l)) ≡ counted x (falling (k ++ ranks l))
  unfolding only
  falling-counted k x l = go (test x)
    where
      go : (t : Bool) → falling (k ++ map rank (cond t (x ∷ only test l) (only test l))) ≡ inserted_if t (rank x) (falling (k ++ ranks l))
      go true = falling-middle k (rank x) (ranks l)
      go false = refl

  -- w comes to a place, and v goes
  pub exchanged : (l : List A) (i : ℕ) (v w : A) → get_elem? l i ≡ some v → counted v (falling (ranks (set l i w))) ≡ counted w (falling (ranks l))
  exchanged [] i v w e = absurd (none-ne-some v e)
  exchanged (x ∷ l) zero v w e =
      rw (falling-counted [] w l, falling-counted [] x l, some-injective x v e) (counted-swap v w (falling (ranks l)))
  exchanged (x ∷ l) (suc i) v w e =
      rw (falling-counted [] x (set l i w), falling-counted [] x l, counted-swap v x (falling (ranks (set l i w))), exchanged l i v w e)
      (counted-swap x w (falling (ranks l)))

  pub length-ranks : (l : List A) → length (ranks l) ≤ length l
  unfolding only
  length-ranks [] = omega arith
  length-ranks (x ∷ l) = go (test x) (length-ranks l)
    where
      go : (t : Bool) → length (ranks l) ≤ length l → length (map rank (cond t (x ∷ only test l) (only test l))) ≤ suc (length l)
      go true h = omega arith
      go false h = omega arith

  pub ranks-all : (l : List A) → All (λ x. test x ≡ true) l → ranks l ≡ map rank l
  unfolding only
  ranks-all [] h = refl
  ranks-all (x ∷ l) h = rw h.0 (ap (λ (r : List ℕ). rank x ∷ r) (ranks-all l h.1))

  pub all-ranks : (P : ℕ → Type 0) (l : List A) → All (λ x. P (rank x)) l → All P (ranks l)
  unfolding only
  all-ranks P [] h = tt
  all-ranks P (x ∷ l) h = go (test x) (all-ranks P l h.1)
    where
      go : (t : Bool) → All P (ranks l) → All P (map rank (cond t (x ∷ only test l) (only test l)))
      go true k = (h.0, k)
      go false k = k

  -- the order of the list makes no difference
  reordered : (k : List ℕ) {l m : List A} → Permᴰ l m → falling (k ++ ranks l) ≡ falling (k ++ ranks m)
  reordered k Permᴰ.nil = refl
  reordered k (Permᴰ.cons {a} {b} {l₁} {l₂} e d) =
      rw (falling-counted k a l₁, falling-counted k b l₂, reordered k d, e)
  reordered k (Permᴰ.swap {a} {b} {a'} {b'} {l} e f) =
      rw (falling-counted k a (b ∷ l), falling-counted k b l, falling-counted k a' (b' ∷ l), falling-counted k b' l, e, f)
      (counted-swap b' a' (falling (k ++ ranks l)))
  reordered k (Permᴰ.trans d e) = reordered k d ∙ reordered k e

  pub falling-perm : (k : List ℕ) (l m : List A) → Perm l m → falling (k ++ ranks l) ≡ falling (k ++ ranks m)
  falling-perm k l m p = ∥∥₁_elim p (is_set ℕ_set (falling (k ++ ranks l)) (falling (k ++ ranks m))) (reordered k)
