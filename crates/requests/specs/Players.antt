-- Demand 3: a list of play requests, one after another, to any box that takes them. Assumes nothing.
use Rattle.std.specs.Prelude.{ℕ, ◌≡◌, Bool, true, false, cond, take}
use mathlib.Core.List.{List, [], ◌∷◌, ◌++◌, map, Perm}
use Rattle.std.proofs.Math.Option.{Option, none, some, or_else}
use Rattle.std.proofs.Math.ListN.{get_elem?}
use Rattle.error.specs.Told.{told, Told, value, value_in}
use Rattle.allocate.specs.Allocation.{priority_of, place_of}
use Rattle.mixer.specs.Mixers.{voices_of, with_voices}
use Rattle.mixer.specs.declared.Mixer.{Mixer}
use Rattle.mixer.specs.declared.VoiceStealingPolicy.TheVariants as P
use Rattle.play.specs.Plays.{placed_by, played_at, played}
use Rattle.play.specs.declared.Played.{Played}
use Rattle.ranking.specs.Box.{handed_at}
use Rattle.ranking.specs.Demand.{Allowed}
use Rattle.ranking.specs.Falling.{falling}
use Rattle.laws.specs.Lists.{only}
use Rattle.start.specs.Starts.{request_start, sound_request}
use Rattle.start.specs.declared.Request.{Request}
use Rattle.voice.specs.Voices.{audible}
use Rattle.voice.specs.declared.Voice.{Voice}

-- A box that takes play requests: states that have a mixer's state in them; what a request is told with these bytes lent, the voice that it
-- got or the refusal's number; and the state that it leaves.
pub record Player (State : Type 0) : Type 0 where
  pub mixer : State → Mixer
  pub told : State → List ℕ → Request → Told ℕ
  pub next : State → List ℕ → Request → State

-- the voice that is told, or none for a refusal
abbrev pub place_given : Told ℕ → Option ℕ
place_given t = value_in t

abbrev pub is_place : Option ℕ → Bool
is_place none = false
is_place (some i) = true

module _ {State : Type 0} (b : Player State) where
  -- the box's N voices
  abbrev pub voices : State → List Voice
  voices s = voices_of (b.mixer s)

  -- "A request is sound where no condition that turns down a play request, number 5 left out, holds for it with the engine's bank and
  -- the lent bytes" (`start`)
  abbrev pub sound : State → List ℕ → Request → Bool
  sound s bytes r = sound_request (b.mixer s).bank bytes r

  -- "It is accepted where it gets no refusal number; the voice that the rule above gives it, in the engine that it gets, is then handed
  -- out."
  abbrev pub handed_out : State → List ℕ → Request → Option ℕ
  handed_out s bytes r = place_given (b.told s bytes r)

  abbrev pub accepted : State → List ℕ → Request → Bool
  accepted s bytes r = is_place (handed_out s bytes r)

  -- "each gets the engine that the one before gave back, one bank's bytes are lent throughout and no other call comes between"
  unfoldable pub played_all : State → List ℕ → List Request → State
  played_all s bytes [] = s
  played_all s bytes (r ∷ rs) = played_all (b.next s bytes r) bytes rs

  -- "the last request that got" voice i
  unfoldable pub last_got : ℕ → State → List ℕ → List Request → Option Request
  last_got i s bytes [] = none
  last_got i s bytes (r ∷ rs) = or_else (last_got i (b.next s bytes r) bytes rs) (cond (handed_at i (handed_out s bytes r)) (some r) none)

  -- "the priorities of the audible voices"
  abbrev pub priorities : State → List ℕ
  priorities s = map priority_of (only audible (voices s))

  -- "those of the list's sound requests"
  abbrev pub asks : State → List ℕ → List Request → List ℕ
  asks s bytes rs = map (λ r. r.priority) (only (sound s bytes) rs)

  -- a voice as "01's entry start makes it" for a request
  pub record StartedBy (s : State) (bytes : List ℕ) (r : Request) (v : Option Voice) : Type 0 where
    pub voice : Voice
    pub start : request_start (b.mixer s).bank bytes r ≡ value voice
    pub same : v ≡ some voice

  -- What demand 3 says of the state s before the requests and the state after them.
  pub record Demand3 (s : State) (bytes : List ℕ) (rs : List Request) (after : State) : Type 0 where
    -- "Afterwards the priorities of the audible voices, in falling order, equal the first N, or all where fewer, of these put together in
    -- falling order, repeats counted: those of the voices audible before and those of the list's sound requests."
    pub ranked : falling (priorities after) ≡ take (b.mixer s).n (falling (priorities s ++ asks s bytes rs))
    -- "A voice that the list has not handed out is unchanged"
    pub unchanged : (i : ℕ) → last_got i s bytes rs ≡ none → get_elem? (voices after) i ≡ get_elem? (voices s) i
    -- "one that it has is as 01's entry start makes it for the last request that got it"
    pub last : (i : ℕ) (r : Request) → last_got i s bytes rs ≡ some r → StartedBy s bytes r (get_elem? (voices after) i)
    -- "So from the same engine and bytes the same requests in any other order leave the same priorities."
    pub any_order : (rs' : List Request) → Perm rs rs' → falling (priorities (played_all s bytes rs')) ≡ falling (priorities after)
    -- of the mixer's state nothing but voices changes; what a box has beside it is that box's to say
    pub rest : b.mixer after ≡ with_voices (b.mixer s) (b.mixer after).voices

  -- "to any engine of N voices under LowestPriorityOldest"
  abbrev pub Ranks : State → Type 0
  Ranks s = (b.mixer s).stealing_policy ≡ P.LowestPriorityOldest

  -- what a place that is given, or none, and document 01's entry start make of a request
  abbrev pub played_in : State → List ℕ → Request → Option ℕ → Played
  played_in s bytes r place = played_at (b.mixer s) (placed_by (place_of place) (request_start (b.mixer s).bank bytes r))

  -- What demand 3 follows from: the box's rule gives a request a place that is allowed, whichever of equals it is, and the request is
  -- handed out and leaves what that place makes. Which number a refusal has is the box's.
  pub record Lawful : Type 0 where
    pub choice : State → ℕ → Option ℕ
    pub allows : (s : State) (p : ℕ) → Ranks s → Allowed audible priority_of (voices s) p (choice s p)
    pub hands : (s : State) (bytes : List ℕ) (r : Request) → handed_out s bytes r ≡ place_given (told (played_in s bytes r (choice s r.priority)).outcome)
    pub leaves : (s : State) (bytes : List ℕ) (r : Request) → b.mixer (b.next s bytes r) ≡ (played_in s bytes r (choice s r.priority)).mixer

  -- a box that hands out voices by document 01's rule, whichever numbers its refusals have
  pub record ByRule : Type 0 where
    pub hands : (s : State) (bytes : List ℕ) (r : Request) → handed_out s bytes r ≡ place_given (told (played (b.mixer s) bytes r).outcome)
    pub leaves : (s : State) (bytes : List ℕ) (r : Request) → b.mixer (b.next s bytes r) ≡ (played (b.mixer s) bytes r).mixer
