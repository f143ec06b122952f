-- A box of one voice with every gain at 255 hands its source's sample to the limiter unchanged: handed-through. Assumes nothing.
use Rattle.std.specs.Prelude.{Option, Some}
use Prim.Native.Nat.{◌≤◌}
use native.Mathlib.Omega.{arith}
use mathlib.Core.Path.{◌≡◌, refl, ap, ◌∙◌}
use mathlib.Core.Bool.{Bool, true, false}
use mathlib.Core.List.{List, [], ◌∷◌, map}
use borrow.Author.Tests.{le-leb, leb-true}
use lib.Dec.{leb}
use lib.IntN.{ℤ, +ℤ_idr}
use lib.ListN.{length, get_or, take}
use Rattle.fixed.specs.Fixed.{gained_by, pan_gains, limited}
use Rattle.fixed.proofs.Laws.{through}
use Rattle.laws.proofs.Lists.{take-map_first}
use Rattle.marks.specs.Marks.{Valid}
use Rattle.marks.specs.declared.Marks.{Marks}
use Rattle.marks.specs.declared.Present.{Present}
use Rattle.mixer.specs.Mixers.{voices_of}
use Rattle.mixer.specs.declared.Mixer.{Mixer}
use Rattle.voice.specs.Sources.{stepped_source}
use Rattle.voice.specs.Voices.{silent_voice, ticked_voice, sample_by, pair_by}
use Rattle.voice.specs.declared.Voice.{Voice}
use Rattle.frame.specs.Fades.{voice_at, advanced_by, marks_advanced}
use Rattle.frame.specs.Frames.{enveloped, leveled, total, given_count, averaged, mono_mix, mono_frame_by, left_of, right_of, side_total, pairs_of, stereo_frame_by}
use Rattle.frame.specs.Places.{map_at}
use Rattle.frame.specs.Whole.{heard, AllAt255, HandedThrough}

-- ---- no fade
pub still-mixer : (on : Bool) (m : Mixer) → m.crossfade_active ≡ false → advanced_by on m ≡ m
unfolding advanced_by
still-mixer on m e = rw e

pub still-marks : (m : Mixer) (k : Marks) → m.crossfade_active ≡ false → marks_advanced m k ≡ k
unfolding marks_advanced
still-marks m k e = rw e

-- ---- one voice
first_of : {A : Type 0} (f : A → A) (d : A) (l : List A) → length l ≡ 16 → map f (take 1 l) ≡ f (get_or l 0 d) ∷ []
first_of f d [] h = absurd (omega arith)
first_of f d (x ∷ l) h = refl

only-heard : (m : Mixer) → m.n ≡ 1 → length m.voices ≡ 16 → voices_of (enveloped m) ≡ ticked_voice (voice_at m 0) ∷ []
unfolding enveloped
only-heard m e h = take-map_first ticked_voice m.n m.voices ∙ rw e (first_of ticked_voice (silent_voice 0) m.voices h)

-- ---- its sample, on its own and on a side whose pan gain is 255
module _ (v : Voice) (raw : ℤ) (gives : (stepped_source v.source).given ≡ Some raw) (level : v.adsr.level_q8 ≡ 255) (gain : v.gain_q8 ≡ 255) where
  sample-whole : sample_by true v ≡ Some raw
  unfolding sample_by
  sample-whole = rw (gives, level, gain) (ap Some (ap (λ (s : ℤ). gained_by true s 255) (through raw) ∙ through raw))

  left-whole : v.pan_q8 ≤ 128 → left_of (pair_by true v) ≡ raw
  unfolding pair_by
  left-whole h = rw (sample-whole, le-leb v.pan_q8 128 h) (through raw)

  right-whole : 128 ≤ v.pan_q8 → right_of (pair_by true v) ≡ raw
  unfolding pair_by
  right-whole h = rw sample-whole (by-test (leb v.pan_q8 128) refl)
    where
      by-test : (t : Bool) → leb v.pan_q8 128 ≡ t → gained_by true raw (pan_gains v.pan_q8).right ≡ raw
      by-test true e = let at : v.pan_q8 ≡ 128 = omega (arith, leb-true v.pan_q8 128 e) in rw at (through raw)
      by-test false e = rw e (through raw)

-- ---- the frame
module _ {p : Present} {raw : ℤ} (h : Valid p) (a : AllAt255 p raw) where
  heard-alone : voices_of (enveloped p.mixer) ≡ heard p ∷ []
  heard-alone = only-heard p.mixer a.one h.inside.full

  mix-whole : mono_mix p.marks (enveloped p.mixer) ≡ raw
  unfolding mono_mix averaged total given_count map_at enveloped
  mix-whole = rw (a.still, heard-alone, a.voice_whole, sample-whole (heard p) raw a.gives a.level a.gain) (+ℤ_idr raw)

  side-whole : (side : Option (ℤ × ℤ) → ℤ) → side (pair_by true (heard p)) ≡ raw → side_total side (pairs_of p.marks (voices_of (enveloped p.mixer))) ≡ raw
  unfolding side_total map_at
  side-whole side e = rw (heard-alone, a.voice_whole, e) (+ℤ_idr raw)

  -- a sum that is the sample, limited and by master gain
  level-whole : (s : ℤ) → s ≡ raw → leveled p.marks (enveloped p.mixer) s ≡ limited raw
  unfolding enveloped
  level-whole s e = rw (e, a.master_whole, a.master) (through (limited raw))

  pub handed-through : HandedThrough p raw
  unfolding mono_frame_by stereo_frame_by
  handed-through =
      let k = still-marks p.mixer p.marks a.still in
      let f = still-mixer p.marks.sounds_on p.mixer a.still in
      record {
        mono = rw (k, f) (level-whole _ mix-whole);
        left = λ l. rw (k, f) (level-whole _ (side-whole left_of (left-whole (heard p) raw a.gives a.level a.gain l)));
        right = λ l. rw (k, f) (level-whole _ (side-whole right_of (right-whole (heard p) raw a.gives a.level a.gain l)));
      }
