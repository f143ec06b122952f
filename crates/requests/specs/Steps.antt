-- Inner: the marks of a loop over requests. Assumes nothing.
use Rattle.std.specs.Prelude.{ℕ, Bool, cond, List, [], ◌∷◌}
use Rattle.allocate.specs.Keys.{rank_in}
use Rattle.marks.specs.Marks.{ranked, with_marks}
use Rattle.marks.specs.Steps as K
use Rattle.marks.specs.declared.Mark.{Mark}
use Rattle.marks.specs.declared.Marks.{Marks}

-- beside a voice that was started, by the box whose marks they are
abbrev pub renewed_by : Bool → ℕ → Marks → Marks
renewed_by present i k = cond present (with_marks k (K.renewed i k.voices)) k

-- each key's rank, and each mark's rule
unfoldable pub ranked_by : List ℕ → List Mark → List Mark
ranked_by [] ks = []
ranked_by (r ∷ keys) [] = []
ranked_by (r ∷ keys) (k ∷ ks) = ranked (rank_in r) k ∷ ranked_by keys ks

-- by the box whose marks they are
abbrev pub marks_by : Bool → Marks → List ℕ → List Mark → Marks
marks_by present k keys rules = cond present (with_marks k (ranked_by keys rules)) k
