-- Document 02's T-08 over calls in any order: who waits, what became of each request that was left, and what does not change by it. Assumes nothing.
use Rattle.std.specs.Prelude.{ℕ, ◌-◌, ◌≡◌, List, [], ◌∷◌, ◌++◌, map, length, take}
use Rattle.entering.specs.Entering.{entered_in}
use Rattle.entering.specs.Fates.{Enters}
use Rattle.frame.specs.Lasting.{Step, frame, call, after_all}
use Rattle.spans.specs.Frames as P
use Rattle.start.specs.declared.Request.{Request}
use Rattle.steps.specs.Steps.{Frame, play}
use Rattle.sounder.specs.Requests.{played_all}
use Rattle.sounder.specs.Sounders.{with_present}
use Rattle.sounder.specs.Steps as S
use Rattle.sounder.specs.Steps.{Lent, framed, frame_step, Call, by01, fade_on, called, box}
use Rattle.entering.specs.declared.Lined.{Lined}
use Rattle.waiting.specs.History as W
use Rattle.waiting.specs.History.{Event, line_after, Afresh, NoneLost}
use Rattle.waiting.specs.Lines.{in_line}
use Rattle.waiting.specs.declared.Waiting.{Waiting}

-- those that wait in a box, next first
abbrev pub waiting_in : Lined → List Waiting
waiting_in s = in_line s.line

-- ---- what happened to the line, latest first (`waiting/History`)
abbrev pub call_events : Call → List Event
call_events (by01 c) = []
call_events (fade_on bytes id ms adsr) = []
call_events (S.leave label r) = W.leave (record { label = label; request = r }) ∷ []
call_events (S.withdraw label) = W.withdraw label ∷ []

-- those that left the line in a frame stood first in it
abbrev pub gone : List Waiting → List Waiting → List Waiting
gone before after = take (length before - length after) before

abbrev pub gone_in : List Waiting → List Event → List Event
gone_in [] es = es
gone_in (w ∷ ws) es = gone_in ws (W.go_in w.label ∷ es)

unfoldable pub events_of : List (Step Lent Call) → Lined → List Event → List Event
events_of [] s es = es
events_of (frame f ∷ ss) s es = events_of ss (framed f s) (gone_in (gone (waiting_in s) (waiting_in (framed f s))) es)
events_of (call c ∷ ss) s es = events_of ss (called c s) (call_events c ++ es)

-- at the start of a frame each that leaves the line goes in or is dropped, and is told which
pub record Told (f : Lent) (s : Lined) : Type 0 where
  pub enters : Enters f.bytes s (entered_in f.bytes s)
  pub same : map (λ t. t.who) enters.tried ≡ gone (waiting_in s) (waiting_in (framed f s))

-- The theorem, of a box s that was just opened: after any steps "The next in line always equals what sorting the waiting requests afresh would give", over the history of when
-- each was left; and none is lost: each that was left waits, was withdrawn, or left the line in a frame, and only one of these.
pub record Lines (ss : List (Step Lent Call)) (s : Lined) : Type 0 where
  pub line : waiting_in (after_all box ss s) ≡ line_after (events_of ss s [])
  pub afresh : Afresh (events_of ss s [])
  pub lost : NoneLost (events_of ss s [])
  pub told : (f : Lent) → Told f (after_all box ss s)

-- ---- "With none waiting, a frame is as before"
abbrev pub AsBefore : Frame → List ℕ → Lined → Type 0
AsBefore f bytes s = frame_step f bytes s ≡ with_present s (P.frame_step f s.present)

-- ---- leaving and withdrawing between play requests
pub data Asked : Type 0 where
  plays : Request → Asked
  leaves : ℕ → Request → Asked
  withdraws : ℕ → Asked

abbrev pub step_of : List ℕ → Asked → Step Lent Call
step_of bytes (plays r) = call (by01 (play bytes r))
step_of bytes (leaves label r) = call (S.leave label r)
step_of bytes (withdraws label) = call (S.withdraw label)

abbrev pub requests_in : List Asked → List Request
requests_in [] = []
requests_in (plays r ∷ xs) = r ∷ requests_in xs
requests_in (leaves label r ∷ xs) = requests_in xs
requests_in (withdraws label ∷ xs) = requests_in xs

-- the voices, and so the priorities of demand 3, are those that the play requests alone leave
abbrev pub PlaysAlone : List ℕ → List Asked → Lined → Type 0
PlaysAlone bytes xs s = (after_all box (map (step_of bytes) xs) s).present ≡ (played_all s bytes (requests_in xs)).present
