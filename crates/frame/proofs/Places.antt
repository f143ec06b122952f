-- A list's elements, each with its place. Assumes nothing.
use Prim.Native.Nat.{ℕ, suc}
use mathlib.Core.Path.{◌≡◌, refl, ap}
use mathlib.Core.List.{List, [], ◌∷◌, map}
use Rattle.frame.specs.Places.{map_at}

module _ {A B : Type 0} where
  -- where the place does not count
  pub map_at-same : (f : ℕ → A → B) (g : A → B) → ((i : ℕ) (x : A) → f i x ≡ g x) → (i : ℕ) (l : List A) → map_at f i l ≡ map g l
  unfolding map_at
  map_at-same f g h i [] = refl
  map_at-same f g h i (x ∷ l) = rw (h i x, map_at-same f g h (suc i) l)

  pub map_at-map : (f : ℕ → A → B) (g : A → A) (i : ℕ) (l : List A) → map_at f i (map g l) ≡ map_at (λ j x. f j (g x)) i l
  unfolding map_at
  map_at-map f g i [] = refl
  map_at-map f g i (x ∷ l) = ap (λ (r : List B). f i (g x) ∷ r) (map_at-map f g (suc i) l)
