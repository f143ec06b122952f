-- What becomes of the requests in line at the start of a frame: none is lost. Assumes nothing.
use Rattle.std.specs.Prelude.{ℕ, ◌≡◌, true, false, List, [], ◌∷◌, ◌++◌, map, ◌⊎◌, set, Option, Some}
use Rattle.std.proofs.Math.Option.{some}
use Rattle.std.proofs.Math.ListN.{get_elem?}
use Rattle.error.specs.Told.{Told, value, refused, refusal}
use Rattle.marks.specs.Marks.{started_mark, marked_at, beside, settled}
use Rattle.marks.specs.declared.Present.{Present}
use Rattle.mixer.specs.Mixers.{voices_of, with_voices}
use Rattle.ranking.specs.Rule.{first_free}
use Rattle.start.specs.Starts.{request_start_under}
use Rattle.voice.specs.Voices.{audible}
use Rattle.voice.specs.declared.Voice.{Voice}
use Rattle.waiting.specs.Lines.{in_line}
use Rattle.waiting.specs.declared.Waiting.{Waiting}
use Rattle.entering.specs.Entering.{voice_free}
use Rattle.entering.specs.declared.Lined.{Lined}
use Rattle.error.specs.declared.AudioError.{AudioError}

-- A request that went in: at the first inaudible voice, whatever the policy, which is as entry start makes it; it was started, and so is the youngest.
pub record WentIn (bytes : List ℕ) (p : Present) (w : Waiting) (i : ℕ) (after : Present) : Type 0 where
  pub voice : Voice
  pub start : request_start_under true p.mixer.bank bytes w.request ≡ value voice
  pub place : first_free audible (voices_of p.mixer) ≡ some i
  pub state : after ≡ settled (beside (with_voices p.mixer (set p.mixer.voices i voice)) (marked_at i started_mark p.marks))

-- "one whose bank or entry now fails is dropped": with what its start is refused with
pub record Dropped (bytes : List ℕ) (p : Present) (w : Waiting) (n : ℕ) (after : Present) : Type 0 where
  pub fails : request_start_under true p.mixer.bank bytes w.request ≡ refused n
  pub state : after ≡ p

abbrev pub Fate : List ℕ → Present → Waiting → Told ℕ → Present → Type 0
Fate bytes p w (value i) after = WentIn bytes p w i after
Fate bytes p w (refused n) after = Dropped bytes p w n after

-- a request that was tried, and the voice that it got or the number that it was dropped with
pub record Tried : Type 0 where
  pub who : Waiting
  pub told : Told ℕ

-- one after another, each while a voice is free
pub data Tries (bytes : List ℕ) : Present → List Tried → Present → Type 0 where
  over : {p : Present} → Tries bytes p [] p
  next :
      {p q after : Present} {t : Tried} {ts : List Tried} → voice_free p ≡ true → Fate bytes p t.who t.told q → Tries bytes q ts after
      → Tries bytes p (t ∷ ts) after

-- "the latest such refusal is kept for reading with its label"
abbrev pub noted : Option (AudioError × ℕ) → ℕ → Told ℕ → Option (AudioError × ℕ)
noted k label (value i) = k
noted k label (refused n) = Some (refusal n, label)

abbrev pub latest : Option (AudioError × ℕ) → List Tried → Option (AudioError × ℕ)
latest k [] = k
latest k (t ∷ ts) = latest (noted k t.who.label t.told) ts

-- What the start of a frame makes of s.
pub record Enters (bytes : List ℕ) (s after : Lined) : Type 0 where
  -- the requests that left the line: each went in or was dropped
  pub tried : List Tried
  pub tries : Tries bytes s.present tried after.present
  -- they stood first, and behind them all others wait as before
  pub line : map (λ t. t.who) tried ++ in_line after.line ≡ in_line s.line
  pub kept : after.kept ≡ latest s.kept tried
  -- "while a voice is free"
  pub ends : (in_line after.line ≡ []) ⊎ (voice_free after.present ≡ false)
  -- of the mixer's state nothing but voices changes, so neither the fade nor the bank; nor does the master's rule
  pub rest : after.present.mixer ≡ with_voices s.present.mixer after.present.mixer.voices
  pub master : after.present.marks.master ≡ s.present.marks.master
  -- no audible voice is taken
  pub ringing :
      (i : ℕ) (v : Voice) → get_elem? s.present.mixer.voices i ≡ some v → audible v ≡ true → get_elem? after.present.mixer.voices i ≡ some v
