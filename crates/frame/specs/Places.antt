-- A list's elements, each with its place. Assumes nothing.
use Rattle.std.specs.Prelude.{ℕ, suc, List, [], ◌∷◌}

-- f of each and of its place, the first at place i
unfoldable pub map_at : {A B : Type 0} → (ℕ → A → B) → ℕ → List A → List B
map_at f i [] = []
map_at f i (x ∷ l) = f i x ∷ map_at f (suc i) l
