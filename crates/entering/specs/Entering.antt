-- Document 02, T-08: "At the start of a frame, before the fade advances, while a voice is free, the highest priority goes in, the earliest left among
-- equals; one whose bank or entry now fails is dropped, and the latest such refusal is kept for reading with its label." Assumes nothing.
use Rattle.std.specs.Prelude.{ℕ, Bool, cond, List, [], ◌∷◌, ltb, Err, Ok, Option, Result, Some}
use Rattle.marks.specs.declared.Present.{Present}
use Rattle.mixer.specs.Mixers.{audible_count}
use Rattle.requests.specs.Presents.{played_present}
use Rattle.waiting.specs.Lines.{in_line, line_of, without}
use Rattle.waiting.specs.declared.Waiting.{Waiting}
use Rattle.entering.specs.Lined.{lined}
use Rattle.entering.specs.declared.Lined.{Lined}
use Rattle.error.specs.declared.AudioError.{AudioError}

-- "a voice is free": of the N fewer are audible
abbrev pub voice_free : Present → Bool
voice_free p = ltb (audible_count p.mixer) p.mixer.n

-- a refusal is kept over any before it; a request that goes in does not touch it
abbrev pub kept_after : Result ℕ AudioError → ℕ → Option (AudioError × ℕ) → Option (AudioError × ℕ)
kept_after (Ok i) label k = k
kept_after (Err e) label k = Some (e, label)

-- those in line one after another, each tried as a play request is, and out of the line either way
unfoldable pub entered : List ℕ → Present → Option (AudioError × ℕ) → List Waiting → Lined
entered bytes p k [] = lined p k (line_of [])
entered bytes p k (w ∷ ws) =
    let q = played_present p bytes w.request in
    cond (voice_free p) (entered bytes q.present (kept_after q.outcome w.label k) ws) (lined p k (line_of (w ∷ ws)))

-- the start of a frame
abbrev pub entered_in : List ℕ → Lined → Lined
entered_in bytes s = entered bytes s.present s.kept (in_line s.line)

-- one of them: w tried, and out of the line
abbrev pub tried_in : List ℕ → Waiting → Lined → Lined
tried_in bytes w s =
    let q = played_present s.present bytes w.request in
    lined q.present (kept_after q.outcome w.label s.kept) (line_of (without w.label (in_line s.line)))
