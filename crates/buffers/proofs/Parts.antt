-- Filling a buffer in two parts is filling it at once. Assumes nothing.
use Prim.Native.Nat.{ℕ, ◌+◌}
use native.Mathlib.Nat.{zero-add, suc-add}
use mathlib.Core.Path.{◌≡◌}
use mathlib.Core.List.{List, [], ◌∷◌, ◌++◌, append_assoc, append-nil}
use lib.ListN.{length, drop}
use lib.Seq.{drop-length}
use Rattle.laws.proofs.Runs.{after-parts, given-parts}
use Rattle.buffers.specs.Buffers.{Done, FillsIn}

module _ {A : Type 0} where
  drop_past : (a b : List A) (k : ℕ) → drop (length a + k) (a ++ b) ≡ drop k b
  drop_past [] b k = rw zero-add
  drop_past (x ∷ a) b k = rw suc-add (drop_past a b k)

-- a whole part `a` filled by i frames, then `b` by j frames, and both at once by i + j: the same cells, the same state, the same count.
-- Of a stereo buffer a part is filled whole where its length is even.
module _ {State A : Type 0} (Good : State → Type 0) (step : State → State) (gives : State → List A) where
  pub parts : (i j k : ℕ) (m : State) (a b x y w : List A) (r s t : Done State) → FillsIn Good step gives i (length a) m a r x → FillsIn Good step gives j k r.state b s y
      → FillsIn Good step gives (i + j) (length a + k) m (a ++ b) t w → (w ≡ x ++ y) × (t.state ≡ s.state) × (t.filled ≡ r.filled + s.filled)
  parts i j k m a b x y w r s t f g h = (
    rw (h.content, f.content, g.content, drop-length a, drop_past a b k, append-nil, given-parts step gives i j m, f.state.same, append_assoc),
    rw (h.state.same, g.state.same, f.state.same, after-parts step i j m),
    rw (h.count, f.count, g.count),
  )
