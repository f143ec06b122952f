-- How many of the first n in falling order are at or above a priority. Assumes nothing.
use Prim.Native.Nat.{ℕ, zero, suc, ◌+◌, ◌≤◌, ◌<◌, min}
use native.Mathlib.Omega.{arith}
use mathlib.Core.Path.{◌≡◌, refl, ◌∙◌}
use mathlib.Core.Bool.{Bool, true, false, cond}
use mathlib.Core.List.{List, [], ◌∷◌}
use lib.Dec.{leb}
use lib.ListN.{take}
use borrow.Author.Tests.{lt-leb, leb-false}
use Rattle.counts.specs.Counts.{how_many}
use Rattle.counts.proofs.Many.{many-none}
use Rattle.laws.specs.Lists.{All}
use Rattle.laws.proofs.Lists.{all-imp}
use Rattle.ranking.specs.Falling.{inserted, falling}
use Rattle.ranking.proofs.Falling.{Falls, falling-order}

-- order makes no difference
module _ (test : ℕ → Bool) where
  many-inserted : (a : ℕ) (l : List ℕ) → how_many test (inserted a l) ≡ cond (test a) 1 0 + how_many test l
  unfolding how_many inserted
  many-inserted a [] = refl
  many-inserted a (x ∷ l) = go (leb a x) (many-inserted a l)
    where
      go : (t : Bool) → how_many test (inserted a l) ≡ cond (test a) 1 0 + how_many test l
          → how_many test (cond t (x ∷ inserted a l) (a ∷ x ∷ l)) ≡ cond (test a) 1 0 + (cond (test x) 1 0 + how_many test l)
      go true e = rw e (omega arith)
      go false e = refl

  pub many-falling : (l : List ℕ) → how_many test (falling l) ≡ how_many test l
  unfolding how_many falling
  many-falling [] = refl
  many-falling (x ∷ l) = many-inserted x (falling l) ∙ rw (many-falling l)

module _ (p : ℕ) where
  -- behind one that is below p nothing is at or above it
  rest_below : (x : ℕ) (l : List ℕ) → x < p → All (λ y. y ≤ x) l → how_many (leb p) l ≡ 0
  rest_below x l h k =
      many-none (leb p) l (all-imp (λ y. y ≤ x) (λ y. leb p y ≡ false) (λ y g. lt-leb p y (omega arith)) l k)

  falls-first : (n : ℕ) (l : List ℕ) → Falls l → how_many (leb p) (take n l) ≡ min n (how_many (leb p) l)
  unfolding how_many
  falls-first zero l f = omega arith
  falls-first (suc n) [] f = omega arith
  falls-first (suc n) (x ∷ l) f = go (leb p x) refl (falls-first n l f.1)
    where
      go : (t : Bool) → leb p x ≡ t → how_many (leb p) (take n l) ≡ min n (how_many (leb p) l)
          → cond t 1 0 + how_many (leb p) (take n l) ≡ min (suc n) (cond t 1 0 + how_many (leb p) l)
      go true g e = omega arith
      go false g e = omega (arith, rest_below x l (leb-false p x g) f.0)

  pub falling-first : (n : ℕ) (l : List ℕ) → how_many (leb p) (take n (falling l)) ≡ min n (how_many (leb p) l)
  falling-first n l = falls-first n (falling l) (falling-order l).1 ∙ rw (many-falling (leb p) l)
