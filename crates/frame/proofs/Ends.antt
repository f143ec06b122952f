-- A fade's end, whichever call began the fade. Assumes nothing.
use Prim.Native.Nat.{◌≤◌}
use native.Mathlib.Omega.{arith}
use mathlib.Core.Path.{◌≡◌, refl, ap}
use mathlib.Core.Bool.{Bool, true, false}
use mathlib.Core.List.{List, [], ◌∷◌}
use lib.ListN.{length, get_or, set}
use Rattle.envelope.specs.Adsrs as A
use Rattle.envelope.specs.declared.Adsr.{Adsr}
use Rattle.envelope.proofs.Laws.{idle-inactive}
use Rattle.mixer.specs.Mixers.{with_voices}
use Rattle.mixer.specs.declared.Mixer.{Mixer}
use Rattle.voice.specs.Sources.{active_source}
use Rattle.voice.specs.Voices.{silent_voice, stopped_voice, audible, sounding}
use Rattle.voice.specs.declared.Voice.{Voice}
use Rattle.voice.proofs.Laws.{or-false}
use Rattle.frame.specs.Fades.{taken_over, voice_at, fade_ended_with, envelope_after}

-- ---- what the ends share: all but voice 0's envelope
ended : Adsr → List Voice → List Voice
ended a vs = let d = silent_voice 0 in set (set vs 0 (taken_over a (get_or vs 0 d) (get_or vs 1 d))) 1 (stopped_voice (get_or vs 1 d))

with_first : Adsr → List Voice → List Voice
with_first a vs = let v = get_or vs 0 (silent_voice 0) in set vs 0 (sounding v v.source a)

ended-first : (a b : Adsr) (vs : List Voice) → 2 ≤ length vs → ended a vs ≡ with_first a (ended b vs)
unfolding ended with_first taken_over
ended-first a b [] h = absurd (omega arith)
ended-first a b (v ∷ []) h = absurd (omega arith)
ended-first a b (v ∷ w ∷ vs) h = refl

-- a state with another envelope of voice 0
abbrev pub first_envelope : Adsr → Mixer → Mixer
first_envelope a m = with_voices m (set m.voices 0 (sounding (voice_at m 0) (voice_at m 0).source a))

pub ends-share : (a b : Adsr) (m : Mixer) → 2 ≤ length m.voices → fade_ended_with a m ≡ first_envelope a (fade_ended_with b m)
unfolding fade_ended_with ended with_first
ends-share a b m h = ap (with_voices (fade_ended_with b m)) (ended-first a b m.voices h)

-- ---- who is heard after it
pub stopped-unheard : (v : Voice) → audible (stopped_voice v) ≡ false
unfolding stopped_voice audible active_source
stopped-unheard v = idle-inactive A.click_spec v.sample_rate_hz

-- no envelope begins at it
pub after-inactive : (on : Bool) (old new : Voice) → audible new ≡ false → A.active (envelope_after on old new) ≡ false
unfolding envelope_after stopped_voice audible
after-inactive true old new h = (or-false (active_source new.source) (A.active new.adsr) h).1
after-inactive false old new h = idle-inactive A.click_spec old.sample_rate_hz

pub taken-unheard : (a : Adsr) (old new : Voice) → A.active a ≡ false → audible new ≡ false → audible (taken_over a old new) ≡ false
unfolding taken_over audible
taken-unheard a old new e h = rw (or-false (active_source new.source) (A.active new.adsr) h).0 e

-- with voice 1's envelope, voice 0 is audible exactly if voice 1 was
pub taken-heard : (old new : Voice) → audible (taken_over new.adsr old new) ≡ audible new
unfolding taken_over audible
taken-heard old new = refl
