-- A frame of all voices is a frame of each by itself, as `voice/Rests` says one. Assumes nothing.
use Prim.Native.Nat.{ℕ, zero, suc, ◌≤◌, ◌<◌}
use native.Mathlib.Omega.{arith}
use mathlib.Core.Path.{◌≡◌, refl, ap, ◌∙◌}
use mathlib.Core.Bool.{Bool, true, false, cond}
use mathlib.Core.List.{List, [], ◌∷◌}
use borrow.Author.Tests.{ltb-true, ltb-false, lt-ltb}
use lib.Dec.{ltb, eqb}
use lib.ListN.{length, get_or}
use Rattle.laws.specs.Lists.{map_first}
use Rattle.laws.proofs.Lists.{length-map_first}
use Rattle.marks.specs.declared.Marks.{Marks}
use Rattle.mixer.specs.Mixers.{Valid}
use Rattle.mixer.specs.declared.Mixer.{Mixer}
use Rattle.voice.specs.Voices.{silent_voice, ticked_voice, stepped_voice}
use Rattle.voice.specs.Rests.{framed}
use Rattle.voice.specs.declared.Voice.{Voice}
use Rattle.frame.specs.Fades.{voice_at, fade_ended_with, fade_ended_by, fade_at, next_t, advanced_by}
use Rattle.frame.specs.Frames.{enveloped, sampled, sampled_count, mono_frame_by, stereo_frame_by}
use Rattle.frame.proofs.Laws.{valid-advanced}

-- ---- the first n of a list
module _ {A : Type 0} where
  pub get_d-map_first : (f : A → A) (n i : ℕ) (l : List A) (d : A) → i < n → i < length l → get_or (map_first f n l) i d ≡ f (get_or l i d)
  get_d-map_first f zero i l d h k = absurd (omega arith)
  get_d-map_first f (suc n) i [] d h k = absurd (omega arith)
  get_d-map_first f (suc n) zero (x ∷ l) d h k = refl
  get_d-map_first f (suc n) (suc i) (x ∷ l) d h k = get_d-map_first f n i l d (omega arith) (omega arith)

  get_d_past : (f : A → A) (n i : ℕ) (l : List A) (d : A) → n ≤ i → get_or (map_first f n l) i d ≡ get_or l i d
  get_d_past f zero i l d h = refl
  get_d_past f (suc n) i [] d h = refl
  get_d_past f (suc n) zero (x ∷ l) d h = absurd (omega arith)
  get_d_past f (suc n) (suc i) (x ∷ l) d h = get_d_past f n i l d (omega arith)

-- ---- one frame
pub advanced-n : (on : Bool) (m : Mixer) → (advanced_by on m).n ≡ m.n
unfolding advanced_by fade_ended_with fade_at
advanced-n on m = go m.crossfade_active (eqb (next_t m) 255)
  where
    go : (a e : Bool) → (cond a (cond e (fade_ended_by on m) (fade_at m (next_t m))) m).n ≡ m.n
    go true true = refl
    go true false = refl
    go false e = refl

-- all are ticked, the first k sampled
pub framed_at : (m : Mixer) (k i : ℕ) → i < m.n → i < length m.voices → voice_at (sampled k (enveloped m)) i ≡ framed (ltb i k) (voice_at m i)
unfolding enveloped sampled
framed_at m k i h l = by-test (ltb i k) refl
  where
    d : Voice
    d = silent_voice 0

    ticks : List Voice
    ticks = map_first ticked_voice m.n m.voices

    t : get_or ticks i d ≡ ticked_voice (get_or m.voices i d)
    t = get_d-map_first ticked_voice m.n i m.voices d h l

    step : Voice → Voice
    step v = (stepped_voice v).voice

    by-test : (b : Bool) → ltb i k ≡ b → get_or (map_first step k ticks) i d ≡ framed b (get_or m.voices i d)
    by-test true e = get_d-map_first step k i ticks d (ltb-true i k e) (rw (length-map_first ticked_voice m.n m.voices) l) ∙ ap step t
    by-test false e = get_d_past step k i ticks d (ltb-false i k e) ∙ t

module _ (k : Marks) {m : Mixer} (h : Valid m) (i : ℕ) (l : i < m.n) where
  abbrev next : Mixer
  next = advanced_by k.sounds_on m

  there : (i < next.n) × (i < length next.voices)
  there = let v = valid-advanced k.sounds_on h in let e = advanced-n k.sounds_on m in (omega arith, omega (arith, v.few, v.full))

  -- each voice, after the fade's advance, has a frame; in a fade only voices 0 and 1 are sampled
  pub mono-framed : voice_at (mono_frame_by k m).mixer i ≡ framed (ltb i (sampled_count next)) (voice_at next i)
  unfolding mono_frame_by enveloped
  mono-framed = framed_at next (sampled_count next) i there.0 there.1

  pub stereo-framed : voice_at (stereo_frame_by k m).mixer i ≡ framed true (voice_at next i)
  unfolding stereo_frame_by enveloped
  stereo-framed =
      framed_at next next.n i there.0 there.1
      ∙ ap (λ (b : Bool). framed b (voice_at next i)) (lt-ltb i next.n there.0)
