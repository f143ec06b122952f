-- What stands beside an inaudible voice never shows, in any frame. Assumes nothing.
use Prim.Native.Nat.{ℕ, suc, ◌+◌, ◌≤◌, ◌<◌}
use native.Mathlib.Nat.{add-zero, add-suc, suc-add, zero-add}
use native.Mathlib.Omega.{arith}
use mathlib.Core.Path.{◌≡◌, refl, ap, sym, ◌∙◌}
use mathlib.Core.Bool.{Bool, true, false, cond}
use mathlib.Core.List.{List, [], ◌∷◌}
use lib.IntN.{ℤ}
use lib.ListN.{length, get_or}
use lib.Seq.{get_or-take, length-take-le}
use Rattle.marks.specs.Marks.{beside, settled, rule_at}
use Rattle.marks.specs.declared.Marks.{Marks}
use Rattle.marks.specs.declared.Present.{Present}
use Rattle.mixer.specs.Mixers as M
use Rattle.mixer.specs.declared.Mixer.{Mixer}
use Rattle.voice.specs.Voices.{silent_voice, audible, ticked_voice, sample_by, pair_by}
use Rattle.voice.specs.declared.source.VoiceSource.TheVariants as S
use Rattle.voice.specs.declared.Voice.{Voice}
use Rattle.voice.proofs.Laws.{ticked-silent, sample-idle, pair-idle}
use Rattle.frame.specs.Fades.{voice_at, advanced_by, marks_advanced}
use Rattle.frame.specs.Frames.{enveloped, sampled, crossed, averaged, samples_of, sampled_count, mono_mix, mono_given, mono_frame_by, duty_frame_by, stereo_given, stereo_frame_by}
use Rattle.frame.specs.Places.{map_at}
use Rattle.frame.specs.Presents.{mono_next, duty_next, stereo_next, pcm_of, duty_of, left_side, right_side}
use Rattle.frame.specs.declared.MonoFrame.{MonoFrame}
use Rattle.frame.specs.declared.StereoFrame.{StereoFrame}
use Rattle.frame.specs.declared.DutyFrame.{DutyFrame}
use Rattle.frame.proofs.Alike.{Alike, heard-voice, rule-alike, settling-alike, alike-settled, marks-full, advanced-alike, framed_alike, framed-full}
use Rattle.frame.proofs.Sized.{Sized, Ready, sized-advanced, sized-enveloped, sampled-few, mono-ready, duty-ready, stereo-ready}
use Rattle.frame.proofs.Voices.{get_d-map_first}

-- two functions that agree at each place
map_at-agree : {A B : Type 0} (f g : ℕ → A → B) (d : A) (i : ℕ) (l : List A) → ((j : ℕ) → j < length l → f (i + j) (get_or l j d) ≡ g (i + j) (get_or l j d))
    → map_at f i l ≡ map_at g i l
unfolding map_at
map_at-agree f g d i [] h = refl
map_at-agree f g d i (x ∷ l) h =
    let z : f i x ≡ g i x = rw add-zero at (h 0 (omega arith)) in
    rw (z, map_at-agree f g d (suc i) l (λ j b. rw (suc-add, ← add-suc) (h (suc j) (omega arith))))

-- ---- the voices' samples, mono or on both sides: an idle voice's is the same by any rule
module _ {B : Type 0} (f : Bool → Voice → B) (idle : (a b : Bool) (v : Voice) → v.source ≡ S.Idle → f a v ≡ f b v) where
  pub ticked-any : (a b : Bool) (v : Voice) → (audible v ≡ true → a ≡ b) → f a (ticked_voice v) ≡ f b (ticked_voice v)
  ticked-any a b v h = go (audible v) refl
    where
      go : (t : Bool) → audible v ≡ t → f a (ticked_voice v) ≡ f b (ticked_voice v)
      go true e = rw (h e)
      go false e = idle a b (ticked_voice v) (ticked-silent v e).1

  module _ {m : Mixer} {k l : Marks} (h : Sized m) (full : length k.voices ≡ 16) (s : Alike m.voices k l) where
    one_same : (i : ℕ) → i < m.n → f (rule_at k i) (voice_at (enveloped m) i) ≡ f (rule_at l i) (voice_at (enveloped m) i)
    unfolding enveloped
    one_same i b =
        rw (get_d-map_first ticked_voice m.n i m.voices (silent_voice 0) b (omega (arith, h.few, h.full)))
        (ticked-any (rule_at k i) (rule_at l i) (voice_at m i) (λ e. rule-alike s i full (omega (arith, h.few)) (heard-voice m.voices i ∙ e)))

    all_same : let vs = M.voices_of (enveloped m) in map_at (λ i v. f (rule_at k i) v) 0 vs ≡ map_at (λ i v. f (rule_at l i) v) 0 vs
    unfolding enveloped
    all_same =
        let b = enveloped m in
        let v = sized-enveloped h in
        let n : length (M.voices_of b) ≡ m.n = length-take-le b.n b.voices (omega (arith, v.few, v.full)) in
        map_at-agree (λ i v. f (rule_at k i) v) (λ i v. f (rule_at l i) v) (silent_voice 0) 0 (M.voices_of b)
        (λ j c. rw (zero-add, get_or-take b.n b.voices j (silent_voice 0) (omega arith)) (one_same j (omega arith)))

pub sample-any : (a b : Bool) (v : Voice) → v.source ≡ S.Idle → sample_by a v ≡ sample_by b v
sample-any a b v e = sample-idle a v e ∙ sym (sample-idle b v e)

pub pair-any : (a b : Bool) (v : Voice) → v.source ≡ S.Idle → pair_by a v ≡ pair_by b v
pair-any a b v e = pair-idle a v e ∙ sym (pair-idle b v e)

mix-same : {m : Mixer} {k l : Marks} → Sized m → length k.voices ≡ 16 → Alike m.voices k l → mono_mix k (enveloped m) ≡ mono_mix l (enveloped m)
unfolding mono_mix enveloped
mix-same {m} {k} {l} h full s = go m.crossfade_active refl
  where
    mixed : Bool → Marks → ℤ
    mixed a r =
        let b = enveloped m in
        cond a (crossed b.crossfade_t_q8 (sample_by (rule_at r 0) (voice_at b 0)) (sample_by (rule_at r 1) (voice_at b 1))) (averaged (samples_of r (M.voices_of b)))

    one : (i : ℕ) → i < m.n → sample_by (rule_at k i) (voice_at (enveloped m) i) ≡ sample_by (rule_at l i) (voice_at (enveloped m) i)
    one = one_same sample_by sample-any h full s

    go : (a : Bool) → m.crossfade_active ≡ a → mixed a k ≡ mixed a l
    go true e = let two = h.fade e in rw (one 0 (omega arith), one 1 (omega arith))
    go false e = rw (all_same sample_by sample-any h full s)

-- ---- alike marks give one frame
module _ {m : Mixer} {k l : Marks} (h : Sized m) (full : length k.voices ≡ 16) (s : Alike m.voices k l) where
  abbrev next : Mixer
  next = advanced_by l.sounds_on m

  after : Alike next.voices (marks_advanced m k) (marks_advanced m l)
  after = advanced-alike l.sounds_on m k h.full full l s

  next-sized : Sized next
  next-sized = sized-advanced l.sounds_on h

  mono-same : mono_frame_by k m ≡ mono_frame_by l m
  unfolding mono_frame_by
  mono-same =
      ap (λ (on : Bool). mono_given (marks_advanced m k) (enveloped (advanced_by on m))) s.on
      ∙ rw (mix-same next-sized (marks-full m k ∙ full) after, after.master)

  duty-same : duty_frame_by k m ≡ duty_frame_by l m
  unfolding duty_frame_by
  duty-same = rw mono-same

  stereo-same : stereo_frame_by k m ≡ stereo_frame_by l m
  unfolding stereo_frame_by
  stereo-same =
      ap (λ (on : Bool). stereo_given (marks_advanced m k) (enveloped (advanced_by on m))) s.on
      ∙ rw (all_same pair_by pair-any next-sized (marks-full m k ∙ full) after, after.master)

  -- and settle to the same after it
  after-settled : (c : ℕ) (f g : Mixer) → c ≤ next.n → f ≡ g → g.voices ≡ (sampled c (enveloped next)).voices
      → settled (beside f (marks_advanced m k)) ≡ settled (beside g (marks_advanced m l))
  after-settled c f g n e v =
      rw e
      (alike-settled g (ap length v ∙ framed-full c next ∙ next-sized.full) (marks-full m k ∙ full)
      (rw v (framed_alike c next n after)))

  count : sampled_count (enveloped next) ≤ next.n
  unfolding enveloped
  count = sampled-few (sized-enveloped next-sized)

  mono-next : settled (mono_next (beside m k)) ≡ settled (mono_next (beside m l))
  unfolding mono_frame_by
  mono-next =
      after-settled (sampled_count (enveloped next)) (mono_frame_by k m).mixer (mono_frame_by l m).mixer count (ap (λ (f : MonoFrame). f.mixer) mono-same) refl

  duty-next : settled (duty_next (beside m k)) ≡ settled (duty_next (beside m l))
  unfolding duty_frame_by mono_frame_by
  duty-next =
      after-settled (sampled_count (enveloped next)) (duty_frame_by k m).mixer (duty_frame_by l m).mixer count (ap (λ (f : DutyFrame). f.mixer) duty-same) refl

  stereo-next : settled (stereo_next (beside m k)) ≡ settled (stereo_next (beside m l))
  unfolding stereo_frame_by enveloped
  stereo-next =
      after-settled next.n (stereo_frame_by k m).mixer (stereo_frame_by l m).mixer (omega arith) (ap (λ (f : StereoFrame). f.mixer) stereo-same) refl

-- ---- the frames of a state
settled-full : (p : Present) → Ready p → length (settled p).marks.voices ≡ 16
settled-full p h = (settling-alike p h.sized.full h.marked).marks.long ∙ h.marked

-- a frame of a state that was settled before it, and cells that are made of what the frame gives
module _ {A : Type 0} where
  pub record Still (step : Present → Present) (gives : Present → List A) (p : Present) : Type 0 where
    pub state : settled (step (settled p)) ≡ settled (step p)
    pub cells : gives (settled p) ≡ gives p
    pub keeps : Ready (step p)

  pub mono-still : (cell : ℤ → List A) (p : Present) → Ready p → Still mono_next (λ p. cell (pcm_of p)) p
  unfolding settled
  mono-still cell p h =
      let f = settled-full p h in
      let s = settling-alike p h.sized.full h.marked in
      record { state = mono-next h.sized f s; cells = ap (λ (x : MonoFrame). cell x.pcm) (mono-same h.sized f s); keeps = mono-ready p h }

  pub duty-still : (cell : ℕ → List A) (p : Present) → Ready p → Still duty_next (λ p. cell (duty_of p)) p
  unfolding settled
  duty-still cell p h =
      let f = settled-full p h in
      let s = settling-alike p h.sized.full h.marked in
      record { state = duty-next h.sized f s; cells = ap (λ (x : DutyFrame). cell x.duty) (duty-same h.sized f s); keeps = duty-ready p h }

  pub stereo-still : (cell : ℤ → ℤ → List A) (p : Present) → Ready p → Still stereo_next (λ p. cell (left_side p) (right_side p)) p
  unfolding settled
  stereo-still cell p h =
      let f = settled-full p h in
      let s = settling-alike p h.sized.full h.marked in
      record { state = stereo-next h.sized f s; cells = ap (λ (x : StereoFrame). cell x.left x.right) (stereo-same h.sized f s); keeps = stereo-ready p h }
