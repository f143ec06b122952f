-- One play request, as the theorem on boxes of voices sees it. Assumes nothing.
use Rattle.std.specs.Prelude.{Option as OptionOf}
use Prim.Native.Nat.{ℕ, ◌<◌}
use native.Mathlib.Omega.{arith}
use mathlib.Core.Path.{◌≡◌, refl}
use mathlib.Core.Bool.{true, false, cond}
use mathlib.Core.List.{List}
use mathlib.Core.Option.{Option, none, some}
use lib.ListN.{length-take}
use lib.Seq.{take-set-lt}
use Rattle.error.specs.Told.{told, Told, value, refused, value_in}
use Rattle.allocate.specs.Allocation.{priority_of, place_of, allocated}
use Rattle.laws.proofs.Bools.{never}
use Rattle.mixer.specs.Mixers.{voices_of, with_voices}
use Rattle.mixer.specs.declared.Mixer.{Mixer}
use Rattle.play.specs.Plays.{placed_by, played_at, played}
use Rattle.play.specs.declared.Played.{Played}
use Rattle.ranking.specs.Box as B
use Rattle.ranking.specs.Demand as D
use Rattle.ranking.specs.Demand.{Allowed, free, taken}
use Rattle.ranking.proofs.Places.{at_length}
use Rattle.start.specs.Starts.{starts, request_start, sound_request}
use Rattle.start.specs.declared.Request.{Request}
use Rattle.start.proofs.Laws.{Heard, request-heard}
use Rattle.voice.specs.Voices.{audible, silent_voice}
use Rattle.voice.specs.declared.Voice.{Voice}
use Rattle.requests.specs.Players.{place_given}
use Rattle.bank.specs.declared.SoundBank.{SoundBank}

-- the voice of a start; any voice where there is none
unfoldable pub voice_or : Told Voice → Voice
voice_or (value v) = v
voice_or (refused e) = silent_voice 0

sounds : (s : Told Voice) (p : ℕ) → Heard p s → starts s ≡ true → (audible (voice_or s) ≡ true) × ((voice_or s).priority ≡ p)
unfolding voice_or
sounds (value v) p h e = h
sounds (refused r) p h e = never e

-- a sound request's voice is audible, and of its priority
pub sounding : (bank : OptionOf SoundBank) (bytes : List ℕ) (r : Request) → sound_request bank bytes r ≡ true
    → (audible (voice_or (request_start bank bytes r)) ≡ true) × ((voice_or (request_start bank bytes r)).priority ≡ r.priority)
unfolding sound_request
sounding bank bytes r h = sounds (request_start bank bytes r) r.priority (request-heard false bank bytes r) h

-- ---- by the voice that is chosen and the start that it asks for
pub handed-by : (m : Mixer) (o : Option ℕ) (s : Told Voice) → place_given (told (played_at m (placed_by (place_of o) s)).outcome) ≡ cond (starts s) o none
handed-by m none (value v) = refl
handed-by m none (refused e) = refl
handed-by m (some i) (value v) = refl
handed-by m (some i) (refused e) = refl

-- a place that is allowed is one of the N
abbrev Inside : ℕ → Option ℕ → Type 0
Inside n none = Unit {0}
Inside n (some i) = i < n

allowed-inside : (m : Mixer) (p : ℕ) {o : Option ℕ} → Allowed audible priority_of (voices_of m) p o → Inside m.n o
allowed-inside m p (free {i} {v} g k) = let l = at_length (voices_of m) i v g in omega (arith, length-take m.n m.voices)
allowed-inside m p (taken {i} {v} h g k l) = let l = at_length (voices_of m) i v g in omega (arith, length-take m.n m.voices)
allowed-inside m p (D.refused h k) = tt

pub after-by : (m : Mixer) (p : ℕ) (o : Option ℕ) (s : Told Voice) → Allowed audible priority_of (voices_of m) p o
    → voices_of (played_at m (placed_by (place_of o) s)).mixer ≡ B.stored (voices_of m) (cond (starts s) o none) (voice_or s)
unfolding voice_or
after-by m p none (value v) h = refl
after-by m p none (refused e) h = refl
after-by m p (some i) (value v) h = take-set-lt m.n m.voices i v (allowed-inside m p h)
after-by m p (some i) (refused e) h = refl

-- nothing but voices changes
pub rest-by : (m : Mixer) (a : Told ℕ) (s : Told Voice) → (played_at m (placed_by a s)).mixer ≡ with_voices m (played_at m (placed_by a s)).mixer.voices
rest-by m (refused n) s = refl
rest-by m (value i) (value v) = refl
rest-by m (value i) (refused e) = refl

module _ (m : Mixer) (bytes : List ℕ) (r : Request) where
  pub rest-one : (played m bytes r).mixer ≡ with_voices m (played m bytes r).mixer.voices
  unfolding played
  rest-one = rest-by m (allocated m r.priority) (request_start m.bank bytes r)

-- ---- starts that differ at most in a refusal's number
pub record SamePlay (p q : Played) : Type 0 where
  pub place : value_in (told p.outcome) ≡ value_in (told q.outcome)
  pub mixer : p.mixer ≡ q.mixer

pub same_start : (m : Mixer) (place : Told ℕ) (s t : Told Voice) → value_in s ≡ value_in t → SamePlay (played_at m (placed_by place s)) (played_at m (placed_by place t))
same_start m (refused n) s t e = record { place = refl; mixer = refl }
same_start m (value i) (value x) (value y) e = let same : x ≡ y = cc in record { place = refl; mixer = rw same }
same_start m (value i) (value x) (refused n) e = record { place = cc; mixer = cc }
same_start m (value i) (refused k) (value y) e = record { place = cc; mixer = cc }
same_start m (value i) (refused k) (refused n) e = record { place = refl; mixer = refl }
