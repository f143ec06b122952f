-- A box of voices that play requests go to one by one. Assumes nothing.
use Rattle.std.specs.Prelude.{ℕ, Bool, false, cond, List, [], ◌∷◌, map, set, eqb}
use Rattle.std.proofs.Math.Option.{Option, none, some, or_else}
use Rattle.laws.specs.Lists.{only}

-- What of the states, voices and requests bears on who gets a voice. The box's policy, its bank and the lent bytes, which stay the
-- same throughout, are inside these functions.
pub record Box (State Voice Request : Type 0) : Type 0 where
  pub audible : Voice → Bool
  pub priority : Voice → ℕ
  -- the request's priority
  pub asked : Request → ℕ
  -- "A request is sound if the same bank and a free voice would accept it."
  pub sound : Request → Bool
  -- the voice that 01's entry start makes for a sound request
  pub started : Request → Voice
  -- the box's N voices
  pub voices : State → List Voice
  -- the place in them that the rule gives a request of this priority, or none; it may look at all of the state
  pub choice : State → ℕ → Option ℕ
  -- the state that a request leaves
  pub next : State → Request → State

-- l with v at a place, if there is one
abbrev pub stored : {Voice : Type 0} → List Voice → Option ℕ → Voice → List Voice
stored l none v = l
stored l (some i) v = set l i v

-- a request was handed place i
abbrev pub handed_at : ℕ → Option ℕ → Bool
handed_at i none = false
handed_at i (some j) = eqb i j

module _ {State Voice Request : Type 0} (b : Box State Voice Request) where
  -- "the priorities of the audible voices"
  abbrev pub priorities : State → List ℕ
  priorities s = map b.priority (only b.audible (b.voices s))

  -- "those of the list's sound requests"
  abbrev pub asks : List Request → List ℕ
  asks rs = map b.asked (only b.sound rs)

  -- "It is accepted where it gets no refusal number; the voice that the rule above gives it, in the engine that it gets, is then
  -- handed out": its place in the voices; none for a request that is refused
  unfoldable pub handed : State → Request → Option ℕ
  handed s r = cond (b.sound r) (b.choice s (b.asked r)) none

  -- "where each gets the engine that the one before gave back"
  unfoldable pub after_all : State → List Request → State
  after_all s [] = s
  after_all s (r ∷ rs) = after_all (b.next s r) rs

  -- "the last request that got" place i
  unfoldable pub last_got : ℕ → State → List Request → Option Request
  last_got i s [] = none
  last_got i s (r ∷ rs) = or_else (last_got i (b.next s r) rs) (cond (handed_at i (handed s r)) (some r) none)
