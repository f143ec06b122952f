-- Which voices the calls that start one leave audible: no other than were before. Assumes nothing.
use Rattle.std.specs.Prelude.{Err, Ok, Result}
use Prim.Native.Nat.{ℕ, zero, suc}
use mathlib.Core.Path.{◌≡◌, refl, sym, ◌∙◌}
use mathlib.Core.Bool.{Bool, true, false, cond}
use mathlib.Core.List.{List, [], ◌∷◌, map}
use lib.Dec.{ltb, eqb}
use lib.ListN.{get_or, set}
use lib.Seq.{get_or-set_other}
use Rattle.bank.specs.Search.{found_given}
use Rattle.bank.specs.declared.EffectEntry.{EffectEntry}
use Rattle.envelope.specs.Adsrs as A
use Rattle.envelope.specs.declared.AdsrSpec.{AdsrSpec}
use Rattle.envelope.proofs.Laws.{released-inactive}
use Rattle.error.specs.Told.{Told, value, refused}
use Rattle.laws.proofs.Bools.{never}
use Rattle.marks.specs.Marks.{heard_at}
use Rattle.marks.proofs.Starts.{map-set}
use Rattle.mixer.specs.Mixers as M
use Rattle.mixer.specs.declared.Mixer.{Mixer}
use Rattle.play.specs.Fades as F
use Rattle.play.specs.Plays as P
use Rattle.play.proofs.Laws.{OnOrNot, turned, began, on-or-not}
use Rattle.polyblep.specs.declared.PolyBlepWaveform.{PolyBlepWaveform}
use Rattle.start.specs.Starts.{entry_start_under}
use Rattle.tone.specs.declared.Waveform.{Waveform}
use Rattle.voice.specs.Sources.{active_source}
use Rattle.voice.specs.Voices.{audible, silent_voice, released_voice}
use Rattle.voice.specs.declared.Voice.{Voice}
use Rattle.voice.proofs.Laws.{or-false}
use Rattle.error.specs.declared.AudioError.{AudioError}

abbrev heard_in : List Voice → ℕ → Bool
heard_in vs j = heard_at (map audible vs) j

-- each voice that is heard after, was before, but for one
abbrev pub Others : ℕ → Mixer → Mixer → Type 0
Others i m after = (j : ℕ) → heard_at (map audible after.voices) j ≡ true → (j ≡ i → ⊥) → heard_at (map audible m.voices) j ≡ true

abbrev pub Fewer : Mixer → Mixer → Type 0
Fewer m after = (j : ℕ) → heard_at (map audible after.voices) j ≡ true → heard_at (map audible m.voices) j ≡ true

set-others : (vs : List Voice) (i : ℕ) (v : Voice) (j : ℕ) → heard_in (set vs i v) j ≡ true → (j ≡ i → ⊥) → heard_in vs j ≡ true
set-others vs i v j e n = sym (rw (map-set audible vs i v) (get_or-set_other (map audible vs) i j (audible v) false n)) ∙ e

-- ---- a voice at 0
pub first-others : (m : Mixer) (v : Voice) → Others 0 m (P.first_sounding m v)
unfolding P.first_sounding
first-others m v = go (eqb m.n 0)
  where
    go : (t : Bool) → Others 0 m (cond t m (M.with_voices m (set m.voices 0 v)))
    go true j e n = e
    go false j e n = set-others m.voices 0 v j e n

-- ---- a fade
released-unheard : (v : Voice) → audible v ≡ false → audible (released_voice v) ≡ false
unfolding released_voice audible
released-unheard v e =
    let h = or-false (active_source v.source) (A.active v.adsr) e in
    rw (released-inactive {a = v.adsr} h.1) e

first-fewer : (vs : List Voice) (j : ℕ) → heard_in (set vs 0 (released_voice (get_or vs 0 (silent_voice 0)))) j ≡ true → heard_in vs j ≡ true
first-fewer [] j e = e
first-fewer (v ∷ vs) zero e = by-heard (audible v) refl
  where
    by-heard : (t : Bool) → audible v ≡ t → audible v ≡ true
    by-heard true h = h
    by-heard false h = never (sym (released-unheard v h) ∙ e)
first-fewer (v ∷ vs) (suc j) e = e

released-fewer : (m : Mixer) → Fewer m (F.first_released m)
unfolding F.first_released
released-fewer m j e = first-fewer m.voices j e

begun-others : (m : Mixer) (v : Voice) (step : ℕ) → Others 1 (F.first_released m) (F.begun (F.first_released m) v step)
unfolding F.begun
begun-others m v step j e n = set-others (F.first_released m).voices 1 v j e n

-- by what it was told
abbrev pub HeardBy : Result (Unit {0}) AudioError → Mixer → Mixer → Type 0
HeardBy (Ok tt) m after = Others 1 m after
HeardBy (Err e) m after = Fewer m after

by-start : (m : Mixer) (ms : ℕ) (t : Told Voice) → let c = F.faded_by (F.first_released m) ms t in HeardBy c.outcome m c.mixer
unfolding F.faded_by
by-start m ms (refused n) = released-fewer m
by-start m ms (value v) = λ j e n. released-fewer m j (begun-others m v _ j e n)

pub faded-heard : (m : Mixer) (bytes : List ℕ) (id ms : ℕ) (adsr : AdsrSpec) → let c = F.faded_under true m bytes id ms adsr in HeardBy c.outcome m c.mixer
unfolding F.faded_under
faded-heard m bytes id ms adsr = by_count (ltb m.n 2)
  where
    by-entry : (t : Told EffectEntry) → let c = F.faded_to true m bytes ms adsr t in HeardBy c.outcome m c.mixer
    by-entry (refused n) = λ j e. e
    by-entry (value entry) = by-start m ms (entry_start_under true m.bank bytes entry adsr 128)

    by_count : (t : Bool) → let c = cond t (M.unchanged m 5) (F.faded_to true m bytes ms adsr (found_given m.bank bytes id)) in HeardBy c.outcome m c.mixer
    by_count true = λ j e. e
    by_count false = by-entry (found_given m.bank bytes id)

-- the second fade call does what the first does, or nothing
pub on-heard : (m : Mixer) (bytes : List ℕ) (id ms : ℕ) (adsr : AdsrSpec) → let c = F.faded_on m bytes id ms adsr in HeardBy c.outcome m c.mixer
on-heard m bytes id ms adsr = by_call (on-or-not m bytes id ms adsr)
  where
    by_call : OnOrNot m (F.faded_under true m bytes id ms adsr) (F.faded_on m bytes id ms adsr) → let c = F.faded_on m bytes id ms adsr in HeardBy c.outcome m c.mixer
    by_call (turned n e o) = rw e (λ j h. h)
    by_call (began d e) = rw e (faded-heard m bytes id ms adsr)

-- ---- tone and PolyBLEP
pub toned-others : (m : Mixer) (hz ms : ℕ) (waveform : Waveform) → Others 0 m (P.toned m hz ms waveform)
unfolding P.toned
toned-others m hz ms waveform = first-others m _

pub bleped-others : (m : Mixer) (hz ms : ℕ) (waveform : PolyBlepWaveform) → Others 0 m (P.poly_bleped m hz ms waveform)
unfolding P.poly_bleped
bleped-others m hz ms waveform = first-others m _
