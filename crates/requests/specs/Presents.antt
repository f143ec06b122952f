-- Play requests to the state of the present rules. Assumes nothing.
use Rattle.std.specs.Prelude.{ℕ, ◌≡◌, Bool, true, false, List, get_or}
use Rattle.error.specs.Told.{told, Told, value, refused}
use Rattle.marks.specs.Marks.{Valid, started_mark, nothing, marked_at, beside, settled}
use Rattle.marks.specs.declared.Marks.{Marks}
use Rattle.marks.specs.declared.Present.{Present}
use Rattle.mixer.specs.declared.Mixer.{Mixer}
use Rattle.play.specs.Plays.{played_under}
use Rattle.play.specs.declared.Played.{Played}
use Rattle.start.specs.declared.Request.{Request}
use Rattle.requests.specs.Players.{Player}
use Rattle.requests.specs.declared.PresentPlayed.{PresentPlayed}

-- the voice that is handed out was started, and is the youngest; "A refusal changes nothing"
abbrev pub started_in : Mixer → Marks → Told ℕ → Present
started_in m k (value i) = settled (beside m (marked_at i started_mark k))
started_in m k (refused n) = beside m k

-- the play request as a call
abbrev pub ValidPresentPlayed : PresentPlayed → Type 0
ValidPresentPlayed p = Valid p.present

abbrev pub played_present : Present → List ℕ → Request → PresentPlayed
played_present p bytes r = let q = played_under true p bytes r in record { outcome = q.outcome; present = started_in q.mixer p.marks (told q.outcome) }

-- what a request leaves by the rules of a box, true for the present one; document 01's has no marks, and those that stand there stay
abbrev pub left_by : Bool → Present → Played → Present
left_by true p q = started_in q.mixer p.marks (told q.outcome)
left_by false p q = beside q.mixer p.marks

abbrev pub player_by : Bool → Player Present
player_by present =
    record {
      mixer = λ p. p.mixer;
      told = λ p bytes r. told (played_under present p bytes r).outcome;
      next = λ p bytes r. left_by present p (played_under present p bytes r);
    }

-- "An accepted request may change the rank, and nothing else, of a voice that it doesn't get": of what stands beside the voices. Of the voices
-- demand 3 says it.
pub record RanksAlone (p : Present) (bytes : List ℕ) (r : Request) (i : ℕ) : Type 0 where
  pub master : (played_present p bytes r).present.marks.master ≡ p.marks.master
  pub fade : (played_present p bytes r).present.marks.sounds_on ≡ p.marks.sounds_on
  pub rule : (j : ℕ) → (j ≡ i → ⊥) → (get_or (played_present p bytes r).present.marks.voices j nothing).whole ≡ (get_or p.marks.voices j nothing).whole
