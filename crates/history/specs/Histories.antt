-- "Each voice keeps its rank among the audible ones by when it was started": what the starts so far say, by a counter beside the calls. The box
-- keeps none, so nothing can run over. Assumes nothing.
use Rattle.std.specs.Prelude.{ℕ, suc, ◌≡◌, Bool, true, false, cond, List, [], ◌∷◌, Err, Ok, Result}
use Rattle.entering.specs.Entering.{voice_free, entered_in}
use Rattle.error.specs.Told.{told, Told, value, refused}
use Rattle.frame.specs.Fades.{marks_advanced}
use Rattle.frame.specs.Lasting.{Step, frame, call}
use Rattle.marks.specs.Marks.{no_marks, marked_at, beside, settled}
use Rattle.marks.specs.declared.Marks.{Marks}
use Rattle.marks.specs.declared.Present.{Present}
use Rattle.requests.specs.Presents.{played_present}
use Rattle.steps.specs.Steps as S
use Rattle.steps.specs.Steps.{play, tone, poly_blep, bank, pan, master_gain, stop, fade, look}
use Rattle.sounder.specs.Calls.{played, begun_by, faded, faded_on}
use Rattle.sounder.specs.Steps.{Lent, framed, Call, by01, fade_on, leave, withdraw, called}
use Rattle.entering.specs.declared.Lined.{Lined}
use Rattle.waiting.specs.Lines.{in_line}
use Rattle.waiting.specs.declared.Waiting.{Waiting}
use Rattle.error.specs.declared.AudioError.{AudioError}

-- beside each voice, in place of a rank, the time of its last start; and the time of the next one
pub record History : Type 0 where
  pub marks : Marks
  pub clock : ℕ

-- Nothing was started yet. Times begin at 256, since 255 is none.
abbrev pub unstarted : History
unstarted = record { marks = no_marks true false; clock = 256 }

abbrev pub started_now : ℕ → History → History
started_now i h = record { marks = marked_at i (record { whole = true; rank = h.clock }) h.marks; clock = suc h.clock }

abbrev pub handed_now : Told ℕ → History → History
handed_now (value i) h = started_now i h
handed_now (refused n) h = h

-- "Both calls set which of them began the last fade; nothing else changes that"
abbrev pub begun_now : Bool → History → History
begun_now on h = record { marks = begun_by on h.marks; clock = h.clock }

abbrev pub faded_now : Bool → Result (Unit {0}) AudioError → History → History
faded_now on (Ok tt) h = begun_now on (started_now 1 h)
faded_now on (Err e) h = h

-- "Tone and PolyBLEP starts count as starts"; a fade starts voice 1. A stop gives the master the present rule.
abbrev pub called_now01 : S.Call → Lined → History → History
called_now01 (play bytes r) s h = handed_now (told (played s bytes r).gave) h
called_now01 (tone hz ms waveform) s h = started_now 0 h
called_now01 (poly_blep hz ms waveform) s h = started_now 0 h
called_now01 (bank rate count len) s h = h
called_now01 (pan i q) s h = h
called_now01 (master_gain gain) s h = h
called_now01 stop s h =
    record { marks = record { voices = h.marks.voices; master = true; sounds_on = h.marks.sounds_on }; clock = h.clock }
called_now01 (fade bytes id ms adsr) s h = faded_now false (faded s bytes id ms adsr).gave h
called_now01 look s h = h

abbrev pub called_now : Call → Lined → History → History
called_now (by01 c) s h = called_now01 c s h
called_now (fade_on bytes id ms adsr) s h = faded_now true (faded_on s bytes id ms adsr).gave h
called_now (leave label r) s h = h
called_now (withdraw label) s h = h

-- a request that goes in at the start of a frame is a start, one after another while a voice is free
unfoldable pub entered_now : List ℕ → Present → List Waiting → History → History
entered_now bytes p [] h = h
entered_now bytes p (w ∷ ws) h =
    let q = played_present p bytes w.request in
    cond (voice_free p) (entered_now bytes q.present ws (handed_now (told q.outcome) h)) h

-- "at a fade's end voice 0, if then audible, takes voice 1's place in age"
abbrev pub advanced_now : Present → History → History
advanced_now p h = record { marks = marks_advanced p.mixer h.marks; clock = h.clock }

-- "At the start of a frame, before the fade advances"
abbrev pub framed_now : Lent → Lined → History → History
framed_now f s h = advanced_now (entered_in f.bytes s).present (entered_now f.bytes s.present (in_line s.line) h)

-- after calls and frames in any order
unfoldable pub history_of : List (Step Lent Call) → Lined → History → History
history_of [] s h = h
history_of (frame f ∷ ss) s h = history_of ss (framed f s) (framed_now f s h)
history_of (call c ∷ ss) s h = history_of ss (called c s) (called_now c s h)

-- the box is what its history says: beside an audible voice its rule, and how many audible voices were started before it; and which call began the
-- last fade
abbrev pub ByHistory : Lined → History → Type 0
ByHistory s h = settled (beside s.present.mixer h.marks) ≡ s.present
