-- What stands at a place of a list. `get_elem? l i` is none past the end. Assumes nothing.
use Prim.Native.Nat.{ℕ, zero, suc, ◌<◌}
use native.Mathlib.Omega.{arith}
use mathlib.Core.Path.{◌≡◌, refl, ap, subst}
use mathlib.Core.List.{List, [], ◌∷◌}
use mathlib.Core.Option.{some, none-ne-some, some-injective}
use lib.ListN.{length, set, get_elem?}
use Rattle.laws.specs.Lists.{All}

module _ {A : Type 0} where
  pub at_length : (l : List A) (i : ℕ) (x : A) → get_elem? l i ≡ some x → i < length l
  at_length [] i x e = absurd (none-ne-some x e)
  at_length (y ∷ l) zero x e = omega arith
  at_length (y ∷ l) (suc i) x e = omega (arith, at_length l i x e)

  pub set_same : (l : List A) (i : ℕ) (x y : A) → get_elem? l i ≡ some x → get_elem? (set l i y) i ≡ some y
  set_same [] i x y e = absurd (none-ne-some x e)
  set_same (z ∷ l) zero x y e = refl
  set_same (z ∷ l) (suc i) x y e = set_same l i x y e

  pub set_other : (l : List A) (i j : ℕ) (y : A) → (i ≡ j → ⊥) → get_elem? (set l j y) i ≡ get_elem? l i
  set_other [] i j y n = refl
  set_other (z ∷ l) zero zero y n = absurd (n refl)
  set_other (z ∷ l) zero (suc j) y n = refl
  set_other (z ∷ l) (suc i) zero y n = refl
  set_other (z ∷ l) (suc i) (suc j) y n = set_other l i j y (λ e. n (ap suc e))

  pub all-at : (P : A → Type 0) (l : List A) (i : ℕ) (x : A) → All P l → get_elem? l i ≡ some x → P x
  all-at P [] i x h e = absurd (none-ne-some x e)
  all-at P (y ∷ l) zero x h e = subst P (some-injective y x e) h.0
  all-at P (y ∷ l) (suc i) x h e = all-at P l i x h.1 e
