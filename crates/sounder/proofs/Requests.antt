-- The box takes play requests as its state does, and demand 3 holds of it. Assumes nothing.
use Prim.Native.Nat.{ℕ}
use mathlib.Core.Bool.{true}
use mathlib.Core.List.{List}
use mathlib.Core.Path.{◌≡◌, refl}
use Rattle.entering.specs.Lined as E
use Rattle.entering.specs.declared.Lined.{Lined}
use Rattle.error.specs.Told.{told, value}
use Rattle.marks.specs.Marks.{Valid}
use Rattle.marks.specs.declared.Present.{Present}
use Rattle.requests.specs.Players.{Lawful}
use Rattle.requests.specs.Presents.{player_by, RanksAlone}
use Rattle.requests.proofs.Along.{Follows}
use Rattle.requests.proofs.Presents as P
use Rattle.start.specs.declared.Request.{Request}
use Rattle.sounder.specs.Calls.{played}
use Rattle.sounder.specs.Requests.{player}
use Rattle.sounder.specs.Sounders.{with_present}

-- so `requests` demand-3 and sound-accepted hold of it
pub lawful : Lawful player
lawful =
    let l = P.lawful true in
    record {
      choice = λ s priority. l.choice s.present priority;
      allows = λ s priority k. l.allows s.present priority k;
      hands = λ s bytes r. l.hands s.present bytes r;
      leaves = λ s bytes r. l.leaves s.present bytes r;
    }

-- what is beside the state stays
pub follows : (s : Lined) → Follows (player_by true) player (with_present s)
follows s = record { mixer = λ p. refl; told = λ p bytes r. refl; next = λ p bytes r. refl }

pub boxed-valid : (s : Lined) → E.Valid s → (p : Present) → Valid p → E.Valid (with_present s p)
boxed-valid s h p g = record { present = g; line = h.line }

-- "An accepted request may change the rank, and nothing else, of a voice that it doesn't get"
pub ranks-alone : (s : Lined) (bytes : List ℕ) (r : Request) (i : ℕ) → E.Valid s → told (played s bytes r).gave ≡ value i → RanksAlone s.present bytes r i
ranks-alone s bytes r i h e = P.ranks-alone s.present bytes r i h.present e
