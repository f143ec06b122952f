-- Demand 3 of the engine: it is a box that takes play requests (`requests`). Assumes nothing.
use Rattle.std.specs.Prelude.{ℕ, List}
use Rattle.std.proofs.Math.Option.{Option}
use Rattle.mixer.specs.Mixers.{Valid}
use Rattle.mixer.specs.declared.Mixer.{Mixer}
use Rattle.play.specs.Plays.{played}
use Rattle.requests.specs.Players as R
use Rattle.requests.specs.Slices as L
use Rattle.start.specs.declared.Request.{Request}
use Rattle.error.specs.Told.{told}

-- the play call, as its contract has it: the engine has nothing beside its mixer's state
abbrev pub player : R.Player Mixer
player =
    record {
      mixer = λ m. m;
      told = λ m bytes r. told (played m bytes r).outcome;
      next = λ m bytes r. (played m bytes r).mixer;
    }

-- ---- what `requests` says of such a box, said of the engine

abbrev pub handed_out : Mixer → List ℕ → Request → Option ℕ
handed_out m bytes r = R.handed_out player m bytes r

abbrev pub played_all : Mixer → List ℕ → List Request → Mixer
played_all m bytes rs = R.played_all player m bytes rs

abbrev pub outcomes_of : Mixer → List ℕ → List Request → List ℕ
outcomes_of m bytes rs = L.outcomes_of player m bytes rs

abbrev pub priorities : Mixer → List ℕ
priorities m = R.priorities player m

abbrev pub PlaysAll : Mixer → List ℕ → List ℕ → Mixer → Type 0
PlaysAll m bytes requests after = L.PlaysAll player Valid m bytes requests after

abbrev pub PlaysEach : Mixer → List ℕ → List ℕ → List ℕ → Mixer → List ℕ → Type 0
PlaysEach m bytes requests cells after told = L.PlaysEach player Valid m bytes requests cells after told
