-- Demand 3 of the box of the present rules: it is a box that takes play requests (`requests`). Assumes nothing.
use Rattle.std.specs.Prelude.{ℕ, List}
use Rattle.std.proofs.Math.Option.{Option}
use Rattle.entering.specs.Lined.{Valid}
use Rattle.entering.specs.declared.Lined.{Lined}
use Rattle.requests.specs.Players as R
use Rattle.requests.specs.Slices as L
use Rattle.start.specs.declared.Request.{Request}
use Rattle.sounder.specs.Calls.{played}
use Rattle.error.specs.Told.{told}

abbrev pub player : R.Player Lined
player =
    record {
      mixer = λ s. s.present.mixer;
      told = λ s bytes r. told (played s bytes r).gave;
      next = λ s bytes r. (played s bytes r).lined;
    }

-- ---- what `requests` says of such a box, said of this one

abbrev pub handed_out : Lined → List ℕ → Request → Option ℕ
handed_out s bytes r = R.handed_out player s bytes r

abbrev pub played_all : Lined → List ℕ → List Request → Lined
played_all s bytes rs = R.played_all player s bytes rs

abbrev pub PlaysAll : Lined → List ℕ → List ℕ → Lined → Type 0
PlaysAll s bytes requests after = L.PlaysAll player Valid s bytes requests after

abbrev pub PlaysEach : Lined → List ℕ → List ℕ → List ℕ → Lined → List ℕ → Type 0
PlaysEach s bytes requests cells after told = L.PlaysEach player Valid s bytes requests cells after told
