-- Each frame takes one sample of a PolyBLEP voice in place 0, and settings take none. Assumes nothing.
use Rattle.std.specs.Prelude.{None, Some}
use Prim.Native.Nat.{ℕ, zero, suc, ◌<◌}
use mathlib.Core.Path.{◌≡◌, refl, sym, ap, ◌∙◌}
use mathlib.Core.Bool.{Bool, true, false, cond}
use mathlib.Core.List.{List, [], ◌∷◌}
use borrow.Author.Tests.{lt-ltb}
use lib.Dec.{ltb}
use lib.ListN.{length, get_or, set, length-set}
use Rattle.laws.proofs.Bools.{never}
use Rattle.laws.proofs.Lists.{length-map_first}
use Rattle.frame.specs.Fades.{voice_at, advanced_by, advanced}
use Rattle.frame.specs.Frames.{enveloped, sampled, sampled_count, mono_frame, mono_frame_by, duty_frame, duty_frame_by, stereo_frame, stereo_frame_by}
use Rattle.frame.proofs.Voices.{framed_at}
use Rattle.mixer.specs.Mixers.{voice_read, panned, panned_at, with_master_gain}
use Rattle.mixer.specs.declared.Mixer.{Mixer}
use Rattle.polyblep.specs.Oscillators as B
use Rattle.polyblep.specs.declared.PolyBlepVoice.{PolyBlepVoice}
use Rattle.voice.specs.Rests.{framed}
use Rattle.voice.specs.Sources.{active_source, stepped_source}
use Rattle.voice.specs.Voices.{audible, ticked_voice, stepped_voice, with_pan, silent_voice}
use Rattle.voice.specs.declared.Voice.{Voice}
use Rattle.voice.specs.declared.source.VoiceSource.TheVariants as S
use Rattle.drift_frames.specs.Calls.{Call, mono, duty, stereo, pan, master, called, is_frame}

-- voice 0 sounds this source, and no fade runs
pub record Ready (m : Mixer) (b : PolyBlepVoice) : Type 0 where
  pub some : 0 < m.n
  pub there : 0 < length m.voices
  pub still : m.crossfade_active ≡ false
  pub source : (voice_at m 0).source ≡ S.PolyBlep b

-- ---- a frame
framed-source : (v : Voice) (b : PolyBlepVoice) → v.source ≡ S.PolyBlep b → b.active ≡ true → (framed true v).source ≡ S.PolyBlep (B.stepped_voice b)
unfolding ticked_voice audible active_source stepped_voice stepped_source
framed-source v b e a = rw (e, a)

still-advanced : (m : Mixer) → m.crossfade_active ≡ false → advanced m ≡ m
unfolding advanced_by
still-advanced m e = rw e

ready-framed : (m : Mixer) (k : ℕ) (b : PolyBlepVoice) → 0 < k → Ready m b → b.active ≡ true → Ready (sampled k (enveloped m)) (B.stepped_voice b)
unfolding sampled enveloped
ready-framed m k b K h a =
    record {
      some = h.some;
      there = rw (length-map_first, length-map_first) h.there;
      still = h.still;
      source = ap (λ (v : Voice). v.source) (framed_at m k 0 h.some h.there ∙ ap (λ (t : Bool). framed t (voice_at m 0)) (lt-ltb 0 k K)) ∙ framed-source (voice_at m 0) b h.source a;
    }

count-there : (m : Mixer) → m.crossfade_active ≡ false → 0 < m.n → 0 < sampled_count (enveloped m)
unfolding enveloped
count-there m e h = rw e h

ready-mono : (m : Mixer) (b : PolyBlepVoice) → Ready m b → b.active ≡ true → Ready (mono_frame m).mixer (B.stepped_voice b)
unfolding mono_frame_by
ready-mono m b h a = rw (still-advanced m h.still) (ready-framed m (sampled_count (enveloped m)) b (count-there m h.still h.some) h a)

some-enveloped : (m : Mixer) → 0 < m.n → 0 < (enveloped m).n
unfolding enveloped
some-enveloped m h = h

ready-stereo : (m : Mixer) (b : PolyBlepVoice) → Ready m b → b.active ≡ true → Ready (stereo_frame m).mixer (B.stepped_voice b)
unfolding stereo_frame_by
ready-stereo m b h a = rw (still-advanced m h.still) (ready-framed m (enveloped m).n b (some-enveloped m h.some) h a)

ready-duty : (m : Mixer) (b : PolyBlepVoice) → Ready m b → b.active ≡ true → Ready (duty_frame m).mixer (B.stepped_voice b)
unfolding duty_frame_by
ready-duty m b h a = let r = ready-mono m b h a in record { some = r.some; there = r.there; still = r.still; source = r.source }

-- ---- a setting
pan-source : (v : Voice) (p : ℕ) → (with_pan v p).source ≡ v.source
unfolding with_pan
pan-source v p = refl

set-source : (vs : List Voice) (i : ℕ) (v d : Voice) → v.source ≡ (get_or vs i d).source → (get_or (set vs i v) 0 d).source ≡ (get_or vs 0 d).source
set-source [] i v d e = refl
set-source (x ∷ vs) zero v d e = e
set-source (x ∷ vs) (suc i) v d e = refl

ready-pan : (m : Mixer) (i p : ℕ) (b : PolyBlepVoice) → Ready m b → Ready (panned m i p) b
unfolding panned voice_read
ready-pan m i p b h = by_place (ltb i m.n)
  where
    by_place : (t : Bool) → Ready (panned_at m i p (cond t (Some (get_or m.voices i (silent_voice 0))) None)) b
    by_place true =
        record {
          some = h.some;
          there = rw length-set h.there;
          still = h.still;
          source = set-source m.voices i (with_pan (voice_at m i) p) (silent_voice 0) (pan-source (voice_at m i) p) ∙ h.source;
        }
    by_place false = h

ready-master : (m : Mixer) (gain : ℕ) (b : PolyBlepVoice) → Ready m b → Ready (with_master_gain m gain) b
unfolding with_master_gain
ready-master m gain b h = record { some = h.some; there = h.there; still = h.still; source = h.source }

-- ---- any of them
pub ready-frame : (c : Call) → (m : Mixer) (b : PolyBlepVoice) → is_frame c ≡ true → Ready m b → b.active ≡ true → Ready (called c m) (B.stepped_voice b)
unfolding called
ready-frame mono m b t h a = ready-mono m b h a
ready-frame duty m b t h a = ready-duty m b h a
ready-frame stereo m b t h a = ready-stereo m b h a
ready-frame (pan i p) m b t h a = never t
ready-frame (master gain) m b t h a = never t

pub ready-setting : (c : Call) → (m : Mixer) (b : PolyBlepVoice) → is_frame c ≡ false → Ready m b → Ready (called c m) b
unfolding called
ready-setting mono m b t h = never (sym t)
ready-setting duty m b t h = never (sym t)
ready-setting stereo m b t h = never (sym t)
ready-setting (pan i p) m b t h = ready-pan m i p b h
ready-setting (master gain) m b t h = ready-master m gain b h
