-- Document 02's T-09: after the end of a fade that its second call began the sound goes on. Assumes nothing.
use Rattle.std.specs.Prelude.{ℕ, suc, ◌≡◌, Bool, true, List, ◌∷◌, map, ◌⊎◌, length}
use Rattle.entering.specs.Entering.{entered_in}
use Rattle.entering.specs.declared.Lined.{Lined}
use Rattle.frame.specs.Fades.{voice_at}
use Rattle.frame.specs.Lasting.{frame, after_all}
use Rattle.frame.specs.Sounding.{gives_at, gives_pair, advanced_state, run_alone, alone_gives, alone_pair}
use Rattle.marks.specs.Marks.{rule_at}
use Rattle.marks.specs.declared.Present.{Present}
use Rattle.voice.specs.Voices.{audible}
use Rattle.voice.specs.declared.Voice.{Voice}
use Rattle.sounder.specs.Steps.{Lent, box}

-- "where no further call comes": frames of all kinds in any order
abbrev pub frames_after : List Lent → Lined → Lined
frames_after fs s = after_all box (map frame fs) s

-- the state that a frame begins with: those that wait have gone in
abbrev pub at_start : List ℕ → Lined → Present
at_start bytes s = (entered_in bytes s).present

-- s is a box in which such a fade has one frame left (`frame/Lasting` frames_left), and so ends in the next, f.
module _ (f : Lent) (s : Lined) where
  -- voice 1 as it is before that frame, and its rule of gain 255
  abbrev pub second : Voice
  second = voice_at (at_start f.bytes s).mixer 1

  abbrev pub second_rule : Bool
  second_rule = rule_at (at_start f.bytes s).marks 1

  -- no request takes its place within n frames: none waits, or it can still be heard
  abbrev pub Undisturbed : ℕ → Type 0
  Undisturbed n = ((entered_in f.bytes s).line.count ≡ 0) ⊎ (audible (run_alone n second) ≡ true)

  -- From that frame on voice 0 gives the samples that voice 1 would have given by itself, under its gain, envelope and rule of gain 255, "in stereo with its pan", and it can be heard
  -- exactly as long: for ever where none waits, else until it falls silent, when a request that waits may get the voice.
  pub record SoundsOn : Type 0 where
    pub taken : audible (voice_at (advanced_state (at_start f.bytes s)).mixer 0) ≡ audible second
    pub mono : gives_at 0 (at_start f.bytes s) ≡ alone_gives second_rule 0 second
    pub stereo : gives_pair 0 (at_start f.bytes s) ≡ alone_pair second_rule 0 second
    pub mono_on : (fs : List Lent) (bytes : List ℕ) → Undisturbed (suc (length fs))
        → gives_at 0 (at_start bytes (frames_after (f ∷ fs) s)) ≡ alone_gives second_rule (suc (length fs)) second
    pub stereo_on : (fs : List Lent) (bytes : List ℕ) → Undisturbed (suc (length fs))
        → gives_pair 0 (at_start bytes (frames_after (f ∷ fs) s)) ≡ alone_pair second_rule (suc (length fs)) second
    pub heard : (fs : List Lent) → Undisturbed (length fs)
        → audible (voice_at (frames_after (f ∷ fs) s).present.mixer 0) ≡ audible (run_alone (suc (length fs)) second)
