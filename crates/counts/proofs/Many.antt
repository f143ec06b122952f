-- How many of a list pass a test. Assumes nothing.
use Prim.Native.Nat.{suc, ◌+◌, ◌≤◌}
use native.Mathlib.Omega.{arith}
use mathlib.Core.Path.{◌≡◌, refl}
use mathlib.Core.Bool.{Bool, true, false, cond, not}
use mathlib.Core.List.{List, [], ◌∷◌, ◌++◌}
use lib.ListN.{length}
use Rattle.laws.specs.Lists.{All}
use Rattle.counts.specs.Counts.{how_many}

module _ {A : Type 0} (test : A → Bool) where
  pub many-append : (l m : List A) → how_many test (l ++ m) ≡ how_many test l + how_many test m
  unfolding how_many
  many-append [] m = omega arith
  many-append (x ∷ l) m = rw (many-append l m) (omega arith)

  -- those that pass and those that do not
  pub many-both : (l : List A) → how_many test l + how_many (λ x. not (test x)) l ≡ length l
  unfolding how_many
  many-both [] = refl
  many-both (x ∷ l) = go (test x) (many-both l)
    where
      go : (t : Bool) → how_many test l + how_many (λ x. not (test x)) l ≡ length l
          → cond t 1 0 + how_many test l + (cond (not t) 1 0 + how_many (λ x. not (test x)) l) ≡ suc (length l)
      go true e = omega arith
      go false e = omega arith

  pub many-most : (l : List A) → how_many test l ≤ length l
  many-most l = omega (arith, many-both l)

  pub many-all : (l : List A) → All (λ x. test x ≡ true) l → how_many test l ≡ length l
  unfolding how_many
  many-all [] h = refl
  many-all (x ∷ l) h = rw (h.0, many-all l h.1) (omega arith)

  pub many-none : (l : List A) → All (λ x. test x ≡ false) l → how_many test l ≡ 0
  unfolding how_many
  many-none [] h = refl
  many-none (x ∷ l) h = rw (h.0, many-none l h.1)

-- tests that agree on each of a list
pub many-same : {A : Type 0} (s t : A → Bool) (l : List A) → All (λ x. s x ≡ t x) l → how_many s l ≡ how_many t l
unfolding how_many
many-same s t [] h = refl
many-same s t (x ∷ l) h = rw (h.0, many-same s t l h.1)
