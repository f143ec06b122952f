-- What insertion and falling order give. Assumes nothing.
use Prim.Native.Nat.{ℕ, zero, suc, ◌≤◌, ◌<◌}
use native.Mathlib.Omega.{arith}
use native.Mathlib.Decide.{dec_le}
use mathlib.Core.Path.{◌≡◌, refl, ap, sym, ◌∙◌}
use mathlib.Core.Logic.{◌⊎◌, ⊎_elim, inl, inr}
use mathlib.Core.List.{List, [], ◌∷◌, ◌++◌, append-nil}
use mathlib.Core.List.Permᴰ
use mathlib.Core.List.{Perm, Permᴰ}
use lib.ListN.{length, take}
use lib.Seq.{take-append_seam, take-take}
use borrow.Author.Tests.{le-leb, lt-leb}
use Rattle.ranking.specs.Falling.{inserted, falling}
use Rattle.laws.specs.Lists.{All}
use Rattle.laws.proofs.Lists.{all-imp}

pub le-or-gt : (a b : ℕ) → (a ≤ b) ⊎ (b < a)
le-or-gt a b = go (dec_le a b)
  where
    go : Dec (a ≤ b) → (a ≤ b) ⊎ (b < a)
    go (yes h) = inl h
    go (no h) = inr (omega (arith, h))

behind : (a x : ℕ) (l : List ℕ) → a ≤ x → inserted a (x ∷ l) ≡ x ∷ inserted a l
unfolding inserted
behind a x l h = rw (le-leb _ _ h)

before : (a x : ℕ) (l : List ℕ) → x < a → inserted a (x ∷ l) ≡ a ∷ x ∷ l
unfolding inserted
before a x l h = rw (lt-leb _ _ h)

alone : (a : ℕ) → inserted a [] ≡ a ∷ []
unfolding inserted
alone a = refl

-- the lower of two first, or the higher
swap-lt : (a b : ℕ) (l : List ℕ) → a < b → inserted a (inserted b l) ≡ inserted b (inserted a l)
swap-lt a b [] h = rw (alone b, alone a, behind a b [] (omega arith), alone a, before b a [] h)
swap-lt a b (x ∷ l) h =
    ⊎_elim
    (λ (p : b ≤ x). rw (behind b x l p, behind a x (inserted b l) (omega arith), behind a x l (omega arith), behind b x (inserted a l) p, swap-lt a b l h))
    (λ (p : x < b).
    rw (before b x l p, behind a b (x ∷ l) (omega arith))
    (⊎_elim
    (λ (q : a ≤ x). rw (behind a x l q, before b x (inserted a l) p))
    (λ (q : x < a). rw (before a x l q, before b a (x ∷ l) h))
    (le-or-gt a x)))
    (le-or-gt b x)

pub inserted-swap : (a b : ℕ) (l : List ℕ) → inserted a (inserted b l) ≡ inserted b (inserted a l)
inserted-swap a b l =
    ⊎_elim
    (λ (p : a ≤ b). ⊎_elim (λ (q : b ≤ a). let e : a ≡ b = omega arith in rw e) (λ (q : a < b). swap-lt a b l q) (le-or-gt b a))
    (λ (p : b < a). sym (swap-lt b a l p))
    (le-or-gt a b)

pub length_inserted : (a : ℕ) (l : List ℕ) → length (inserted a l) ≡ suc (length l)
length_inserted a [] = rw (alone a)
length_inserted a (x ∷ l) =
    ⊎_elim
    (λ (p : a ≤ x). rw (behind a x l p) (ap suc (length_inserted a l)))
    (λ (p : x < a). rw (before a x l p))
    (le-or-gt a x)

pub length-falling : (l : List ℕ) → length (falling l) ≡ length l
unfolding falling
length-falling [] = refl
length-falling (a ∷ l) = length_inserted a (falling l) ∙ ap suc (length-falling l)

-- where in the list a priority stands makes no difference
pub falling-middle : (l : List ℕ) (a : ℕ) (k : List ℕ) → falling (l ++ (a ∷ k)) ≡ inserted a (falling (l ++ k))
unfolding falling
falling-middle [] a k = refl
falling-middle (x ∷ l) a k = rw (falling-middle l a k) (inserted-swap x a (falling (l ++ k)))

inserted-all : (P : ℕ → Type 0) (a : ℕ) (l : List ℕ) → P a → All P l → All P (inserted a l)
inserted-all P a [] h k = rw (alone a) (h, tt)
inserted-all P a (x ∷ l) h k =
    ⊎_elim
    (λ (p : a ≤ x). rw (behind a x l p) (k.0, inserted-all P a l h k.1))
    (λ (p : x < a). rw (before a x l p) (h, k))
    (le-or-gt a x)

falling-all : (P : ℕ → Type 0) (l : List ℕ) → All P l → All P (falling l)
unfolding falling
falling-all P [] k = tt
falling-all P (x ∷ l) k = inserted-all P x (falling l) k.0 (falling-all P l k.1)

at-end : (m : ℕ) (l : List ℕ) → All (λ x. m ≤ x) l → inserted m l ≡ l ++ (m ∷ [])
at-end m [] k = alone m
at-end m (x ∷ l) k = rw (behind m x l k.0, at-end m l k.1)

-- one that is no higher than the n others goes out
pub lowest-out : (n m : ℕ) (l : List ℕ) → length l ≡ n → All (λ x. m ≤ x) l → take n (inserted m (falling l)) ≡ falling l
lowest-out n m l e k =
    rw (at-end m (falling l) (falling-all (λ x. m ≤ x) l k), ← e, ← length-falling l) (take-append_seam (falling l) (m ∷ []))

take-cons : (n x : ℕ) (s : List ℕ) → take n (x ∷ take n s) ≡ take n (x ∷ s)
take-cons zero x s = refl
take-cons (suc n) x s = ap (λ (l : List ℕ). x ∷ l) (take-take n (suc n) s (omega arith))

-- what is not among the first n does not come back
take_inserted : (n a : ℕ) (s : List ℕ) → take n (inserted a (take n s)) ≡ take n (inserted a s)
take_inserted zero a s = refl
take_inserted (suc n) a [] = refl
take_inserted (suc n) a (x ∷ s) =
    ⊎_elim
    (λ (p : a ≤ x). rw (behind a x (take n s) p, behind a x s p, take_inserted n a s))
    (λ (p : x < a). rw (before a x (take n s) p, before a x s p) (ap (λ (l : List ℕ). a ∷ l) (take-cons n x s)))
    (le-or-gt a x)

-- so the first n of l may stand for l, whatever k is put with them
pub first-of-both : (n : ℕ) (f l k : List ℕ) → falling f ≡ take n (falling l) → take n (falling (f ++ k)) ≡ take n (falling (l ++ k))
first-of-both n f l [] e = rw (append-nil f, append-nil l, e) (take-take n n (falling l) (omega arith))
first-of-both n f l (a ∷ k) e =
    rw (falling-middle f a k, falling-middle l a k, ← take_inserted n a (falling (f ++ k)), first-of-both n f l k e) (take_inserted n a (falling (l ++ k)))

-- ---- falling order is what its name says: the same numbers, repeats counted, each at least as high as all after it
abbrev pub Falls : List ℕ → Type 0
Falls [] = Unit {0}
Falls (x ∷ l) = All (λ y. y ≤ x) l × Falls l

inserted-falls : (a : ℕ) (l : List ℕ) → Falls l → Falls (inserted a l)
inserted-falls a [] k = rw (alone a) (tt, tt)
inserted-falls a (x ∷ l) k =
    ⊎_elim
    (λ (p : a ≤ x). rw (behind a x l p) (inserted-all (λ y. y ≤ x) a l p k.0, inserted-falls a l k.1))
    (λ (p : x < a). rw (before a x l p) ((omega arith, all-imp (λ y. y ≤ x) (λ y. y ≤ a) (λ y h. omega arith) l k.0), k))
    (le-or-gt a x)

inserted_same : (a : ℕ) (l : List ℕ) → Permᴰ (a ∷ l) (inserted a l)
inserted_same a [] = rw (alone a) (Permᴰ.refl (a ∷ []))
inserted_same a (x ∷ l) =
    ⊎_elim
    (λ (p : a ≤ x). rw (behind a x l p) (Permᴰ.trans (Permᴰ.swap refl refl) (Permᴰ.cons refl (inserted_same a l))))
    (λ (p : x < a). rw (before a x l p) (Permᴰ.refl (a ∷ x ∷ l)))
    (le-or-gt a x)

falling-same : (l : List ℕ) → Permᴰ l (falling l)
unfolding falling
falling-same [] = Permᴰ.nil
falling-same (x ∷ l) = Permᴰ.trans (Permᴰ.cons refl (falling-same l)) (inserted_same x (falling l))

falling-falls : (l : List ℕ) → Falls (falling l)
unfolding falling
falling-falls [] = tt
falling-falls (x ∷ l) = inserted-falls x (falling l) (falling-falls l)

pub falling-order : (l : List ℕ) → Perm l (falling l) × Falls (falling l)
falling-order l = (∣ falling-same l ∣₁, falling-falls l)
