-- How long a fade takes (document 02, T-02): from a state, and after any calls of a box. Assumes nothing.
use Rattle.std.specs.Prelude.{ℕ, ◌+◌, ◌-◌, ◌≤◌, ◌<◌, max, ◌≡◌, Bool, true, false, cond, ◌&&◌, List, [], ◌∷◌, length}
use Rattle.config.specs.Config.{rounded_up}
use Rattle.laws.specs.Lists.{only}
use Rattle.mixer.specs.declared.Mixer.{Mixer}
use Rattle.frame.specs.Fades.{fade_ended_by, fade_at, next_t, advanced_by, advanced}

-- "Promise the count itself: 255 ÷ step, rounded up": frames from the fade's call on, the one in which it ends among them
abbrev pub fade_count : ℕ → ℕ
fade_count step = rounded_up 255 step

-- what is left of a fade under way: (255 − t) ÷ step, rounded up, and at least the frame that ends it; 0 where no fade is running
unfoldable pub frames_left : Mixer → ℕ
frames_left m = cond m.crossfade_active (max 1 (rounded_up (255 - m.crossfade_t_q8) m.crossfade_step_q8)) 0

-- ---- calls one after another

-- the fade's fields of two states are the same
pub record SameFade (a b : Mixer) : Type 0 where
  pub active : a.crossfade_active ≡ b.crossfade_active
  pub t : a.crossfade_t_q8 ≡ b.crossfade_t_q8
  pub step : a.crossfade_step_q8 ≡ b.crossfade_step_q8

-- A box: states that have a mixer's state in them, the calls that make one frame, and the others. A stop, and a fade that is accepted, do not
-- let a fade go on; any other call does.
pub record Box (State Frame Call : Type 0) : Type 0 where
  pub mixer : State → Mixer
  pub framed : Frame → State → State
  pub called : Call → State → State
  pub goes_on : Call → State → Bool

pub data Step (Frame Call : Type 0) : Type 0 where
  frame : Frame → Step Frame Call
  call : Call → Step Frame Call

abbrev pub is_frame : {Frame Call : Type 0} → Step Frame Call → Bool
is_frame (frame f) = true
is_frame (call c) = false

-- "in mono or stereo frames mixed freely"
abbrev pub frames_in : {Frame Call : Type 0} → List (Step Frame Call) → ℕ
frames_in ss = length (only is_frame ss)

module _ {State Frame Call : Type 0} (b : Box State Frame Call) where
  -- the laws from which the count follows: a frame advances the fade, its fields the same whichever call began it, and a call that lets it go on
  -- leaves them
  pub record Lawful : Type 0 where
    pub advances : (f : Frame) (e : State) → SameFade (b.mixer (b.framed f e)) (advanced (b.mixer e))
    pub leaves : (c : Call) (e : State) → b.goes_on c e ≡ true → SameFade (b.mixer (b.called c e)) (b.mixer e)

  -- each step gets the state that the one before gave back
  unfoldable pub after_all : List (Step Frame Call) → State → State
  after_all [] e = e
  after_all (frame f ∷ ss) e = after_all ss (b.framed f e)
  after_all (call c ∷ ss) e = after_all ss (b.called c e)

  -- "where no stop, no other fade comes between"
  unfoldable pub unbroken : List (Step Frame Call) → State → Bool
  unbroken [] e = true
  unbroken (frame f ∷ ss) e = unbroken ss (b.framed f e)
  unbroken (call c ∷ ss) e = b.goes_on c e && unbroken ss (b.called c e)

  -- From the state e on a fade takes so many frames: what holds after the steps ss, and of the frame that comes next.
  pub record Lasts (count : ℕ) (e : State) (ss : List (Step Frame Call)) : Type 0 where
    -- after fewer frames the fade is running, after that many it is not
    pub running : frames_in ss < count → (b.mixer (after_all ss e)).crossfade_active ≡ true
    pub over : count ≤ frames_in ss → (b.mixer (after_all ss e)).crossfade_active ≡ false
    -- a frame takes one off what is left, and nothing else does
    pub left : frames_left (b.mixer (after_all ss e)) ≡ count - frames_in ss
    -- the frame of that number is the one in which voice 0 takes over, whichever call began the fade; those before it move t, those after it find
    -- no fade
    pub moves : (on : Bool) → frames_in ss + 1 < count
        → advanced_by on (b.mixer (after_all ss e)) ≡ fade_at (b.mixer (after_all ss e)) (next_t (b.mixer (after_all ss e)))
    pub ends : (on : Bool) → frames_in ss + 1 ≡ count → advanced_by on (b.mixer (after_all ss e)) ≡ fade_ended_by on (b.mixer (after_all ss e))
    pub rests : (on : Bool) → count ≤ frames_in ss → advanced_by on (b.mixer (after_all ss e)) ≡ b.mixer (after_all ss e)
