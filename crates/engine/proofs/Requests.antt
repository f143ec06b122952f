-- The engine takes play requests as the state of the present rules does, and demand 3 holds of it. Assumes nothing.
use mathlib.Core.Bool.{false}
use Prim.Native.Nat.{ℕ}
use mathlib.Core.List.{List}
use mathlib.Core.Path.{refl}
use Rattle.marks.specs.Marks.{ValidIn, lifted}
use Rattle.marks.specs.declared.Present.{Present}
use Rattle.mixer.specs.Mixers.{Valid}
use Rattle.mixer.specs.declared.Mixer.{Mixer}
use Rattle.requests.specs.Players.{Lawful}
use Rattle.play.specs.Plays.{played, played_under}
use Rattle.requests.specs.Presents.{player_by}
use Rattle.requests.specs.Slices as L
use Rattle.requests.proofs.Along.{Follows, each-along}
use Rattle.requests.proofs.Demand3.{by-rule}
use Rattle.engine.specs.Requests.{player, PlaysEach}

-- so `requests` demand-3 and sound-accepted hold of it
pub lawful : Lawful player
lawful = by-rule player (record { hands = λ m bytes r. refl; leaves = λ m bytes r. refl })

-- the mixer's state out of a state of the present rules
abbrev pub taken : Present → Mixer
taken p = p.mixer

pub follows : Follows (player_by false) player taken
unfolding played played_under
follows = record { mixer = λ p. refl; told = λ p bytes r. refl; next = λ p bytes r. refl }

pub taken-valid : (p : Present) → ValidIn false p → Valid (taken p)
taken-valid p h = h

-- so a list of requests to the lifted state is one to the engine
pub each-lifted : {m : Mixer} {r : Present} {bytes requests cells told : List ℕ} → L.PlaysEach (player_by false) (ValidIn false) (lifted m) bytes requests cells r told
    → PlaysEach m bytes requests cells r.mixer told
each-lifted {m} {r} {bytes} {requests} {cells} {told} h =
    each-along (player_by false) player taken follows bytes (ValidIn false) Valid taken-valid (lifted m) requests cells r told h
