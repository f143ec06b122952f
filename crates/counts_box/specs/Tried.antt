-- Document 02, T-13: the counts "equal what trying every list gives". Lists are played, one request after another, by the play call's
-- definition. Assumes nothing.
use Rattle.std.specs.Prelude.{ℕ, ◌≤◌, ◌<◌, ◌≡◌, Bool, true, false, not, List, map}
use Rattle.counts.specs.Counts.{turned_away, counted_by, counted}
use Rattle.counts.specs.declared.Counts.{Counts}
use Rattle.entering.specs.Lined.{Valid}
use Rattle.entering.specs.declared.Lined.{Lined}
use Rattle.error.specs.Told.{value}
use Rattle.laws.specs.Lists.{All}
use Rattle.requests.specs.Players as R
use Rattle.requests.specs.Players.{Player, Ranks}
use Rattle.sounder.specs.Requests.{player}
use Rattle.start.specs.declared.Request.{Request}
use Rattle.voice.specs.Voices.{audible}

module _ {State : Type 0} (b : Player State) where
  -- "a silent .. box"
  abbrev pub Silent : State → Type 0
  Silent s = All (λ v. audible v ≡ false) (R.voices b s)

  -- "lists of n sound requests": for each list of priorities below k, sound requests that have them, whatever their ids and envelopes
  pub record Asks (s : State) (bytes : List ℕ) (k : ℕ) (ask : List ℕ → List Request) : Type 0 where
    pub priorities : (l : List ℕ) → All (λ q. q < k) l → map (λ r. r.priority) (ask l) ≡ l
    pub sound : (l : List ℕ) → All (λ q. q < k) l → All (λ r. R.sound b s bytes r ≡ true) (ask l)

  -- "a sound request .. is refused" after a list: the box that the list leaves does not accept it
  abbrev pub refused_after : State → List ℕ → List Request → Request → Bool
  refused_after s bytes rs r = not (R.accepted b (R.played_all b s bytes rs) bytes r)

  -- "trying every list": each is played on the silent box, and the request then asked
  abbrev pub tried : State → List ℕ → (List ℕ → List Request) → ℕ → ℕ → Request → Counts
  tried s bytes ask k n r = counted_by (λ l. refused_after s bytes (ask l) r) k n

  -- What is promised of a state: for all requests of k priorities, and one more that is sound, trying gives the count by the rule.
  pub record Tried (s : State) : Type 0 where
    pub same :
        (bytes : List ℕ) (k n : ℕ) (ask : List ℕ → List Request) (r : Request) → Asks s bytes k ask → R.sound b s bytes r ≡ true
        → tried s bytes ask k n r ≡ counted_by (turned_away (b.mixer s).n r.priority) k n
    -- so it gives what the call answers
    pub call :
        (bytes : List ℕ) (k n : ℕ) (ask : List ℕ → List Request) (r : Request) → Asks s bytes k ask → R.sound b s bytes r ≡ true
        → k ≤ 4 → n ≤ 8 → r.priority < k → counted (b.mixer s).n k n r.priority ≡ value (tried s bytes ask k n r)

-- T-13's theorem, of every silent box of the present rules under LowestPriorityOldest
pub record CountsTried : Type 0 where
  pub each : (s : Lined) → Valid s → Ranks player s → Silent player s → Tried player s
