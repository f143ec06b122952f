-- What is silent stays silent. Assumes nothing.
use Rattle.std.specs.Prelude.{None, Option}
use Prim.Native.Nat.{ℕ, suc, ◌≤◌, ◌<◌}
use native.Mathlib.Nat.{zero-mul}
use native.Mathlib.Omega.{arith}
use mathlib.Core.Path.{◌≡◌, refl}
use mathlib.Core.Bool.{Bool, true, false, cond}
use mathlib.Core.List.{List, [], ◌∷◌}
use lib.Dec.{eqb}
use lib.IntN.{ℤ, pos}
use lib.ListN.{length, take, set}
use lib.Seq.{take-set-lt, get_or-take, length-take-le}
use Rattle.laws.specs.Lists.{All}
use Rattle.frame.specs.Places.{map_at}
use Rattle.laws.proofs.Lists.{all_set, all-get, all_map, all-imp, all_take, take-map_first, map_first-same}
use Rattle.mixer.specs.Mixers.{Valid, voices_of}
use Rattle.mixer.specs.declared.Mixer.{Mixer}
use Rattle.voice.specs.Voices.{silent_voice, stopped_voice, audible, ticked_voice, stepped_voice, sample_by, pair_by}
use Rattle.voice.specs.declared.source.VoiceSource.TheVariants as S
use Rattle.frame.proofs.Ends.{stopped-unheard, after-inactive, taken-unheard}
use Rattle.frame.proofs.Laws.{valid-advanced, valid-enveloped, sampled-there}
use Rattle.voice.specs.declared.Voice.{Voice}
use Rattle.voice.proofs.Laws.{ticked-silent, stepped-idle, sample-idle, pair-idle}
use Rattle.frame.specs.Fades.{taken_over, voice_at, fade_ended_with, envelope_after, fade_ended_by, fade_at, next_t, advanced_by, marks_advanced}
use Rattle.marks.specs.Marks.{rule_at}
use Rattle.marks.specs.declared.Marks.{Marks}
use Rattle.frame.specs.Frames.{enveloped, sampled, leveled, total, given_count, averaged, crossed, samples_of, sampled_count, mono_mix, mono_frame_by, left_of, right_of, side_total, stereo_frame_by}

abbrev Inaudible : Voice → Type 0
Inaudible v = audible v ≡ false

-- no voice can be heard
abbrev pub Silent : Mixer → Type 0
Silent m = All Inaudible (voices_of m)

-- nothing is left to sound
abbrev Idle : Voice → Type 0
Idle v = (audible v ≡ false) × (v.source ≡ S.Idle)

advance-silent : (on : Bool) (m : Mixer) → Valid m → Silent m → Silent (advanced_by on m)
unfolding advanced_by fade_ended_with fade_at
advance-silent on m h s = by-active m.crossfade_active refl
  where
    first : Voice
    first = taken_over (envelope_after on (voice_at m 0) (voice_at m 1)) (voice_at m 0) (voice_at m 1)

    ended : 2 ≤ m.n → All Inaudible (take m.n (set (set m.voices 0 first) 1 (stopped_voice (voice_at m 1))))
    ended k =
        let d = silent_voice 0 in
        let l : length (voices_of m) ≡ m.n = length-take-le m.n m.voices (omega (arith, h.few, h.full)) in
        let one : Inaudible (voice_at m 1) = rw (← get_or-take m.n m.voices 1 d (omega arith)) (all-get Inaudible (voices_of m) 1 d s (omega arith)) in
        let zero : Inaudible first = taken-unheard (envelope_after on (voice_at m 0) (voice_at m 1)) (voice_at m 0) (voice_at m 1) (after-inactive on (voice_at m 0) (voice_at m 1) one) one in
        rw (
          take-set-lt m.n (set m.voices 0 first) 1 (stopped_voice (voice_at m 1)) (omega arith),
          take-set-lt m.n m.voices 0 first (omega arith),
        )
        (all_set Inaudible (set (voices_of m) 0 first) 1 (stopped_voice (voice_at m 1)) (all_set Inaudible (voices_of m) 0 first s zero) (stopped-unheard (voice_at m 1)))

    by_end : m.crossfade_active ≡ true → (e : Bool) → Silent (cond e (fade_ended_by on m) (fade_at m (next_t m)))
    by_end a true = ended (h.fade a).0
    by_end a false = s

    by-active : (a : Bool) → m.crossfade_active ≡ a → Silent (cond a (cond (eqb (next_t m) 255) (fade_ended_by on m) (fade_at m (next_t m))) m)
    by-active true a = by_end a (eqb (next_t m) 255)
    by-active false a = s

envelope-silent : (m : Mixer) → Silent m → All Idle (voices_of (enveloped m))
unfolding enveloped
envelope-silent m s = rw (take-map_first ticked_voice m.n m.voices) (all_map Inaudible Idle ticked_voice ticked-silent (voices_of m) s)

-- ---- an idle voice gives no sample, and so no frame a sound
same-sampled : (k : ℕ) (m : Mixer) → k ≤ m.n → All Idle (voices_of m) → sampled k m ≡ m
unfolding sampled
same-sampled k m h a =
    rw
    (map_first-same (λ v. (stepped_voice v).voice) k m.voices
    (all-imp Idle (λ v. (stepped_voice v).voice ≡ v) (λ v i. (stepped-idle v i.1).1) (take k m.voices) (all_take Idle k m.n m.voices h a)))

module _ (r : Marks) where
  no-sample : (i : ℕ) (l : List Voice) → All Idle l
      → let gs = map_at (λ i v. sample_by (rule_at r i) v) i l in (total gs ≡ pos 0) × (given_count gs ≡ 0)
  unfolding total given_count map_at
  no-sample i [] a = (refl, refl)
  no-sample i (v ∷ l) a = rw (sample-idle (rule_at r i) v a.0.1) (no-sample (suc i) l a.1)

  no-mix : (m : Mixer) → (m.crossfade_active ≡ true → 2 ≤ m.n) → m.n ≤ length m.voices → All Idle (voices_of m) → mono_mix r m ≡ pos 0
  unfolding mono_mix averaged crossed
  no-mix m h k a = by-active m.crossfade_active refl
    where
      idle : (i : ℕ) (w : Bool) → i < m.n → sample_by w (voice_at m i) ≡ None
      idle i w l =
          let e : length (voices_of m) ≡ m.n = length-take-le m.n m.voices k in
          let v : Idle (voice_at m i) = rw (← get_or-take m.n m.voices i (silent_voice 0) l) (all-get Idle (voices_of m) i (silent_voice 0) a (omega arith)) in
          sample-idle w (voice_at m i) v.1

      by-active : (b : Bool) → m.crossfade_active ≡ b
          → cond b (crossed m.crossfade_t_q8 (sample_by (rule_at r 0) (voice_at m 0)) (sample_by (rule_at r 1) (voice_at m 1))) (averaged (samples_of r (voices_of m))) ≡ pos 0
      by-active true e = let n = h e in rw (idle 0 (rule_at r 0) (omega arith), idle 1 (rule_at r 1) (omega arith))
      by-active false e = rw ((no-sample 0 (voices_of m) a).1, (no-sample 0 (voices_of m) a).0)

  silent-level : (m : Mixer) → leveled r m (pos 0) ≡ pos 0
  silent-level m = rw zero-mul

  no-side : (side : Option (ℤ × ℤ) → ℤ) → side None ≡ pos 0 → (i : ℕ) (l : List Voice) → All Idle l
      → side_total side (map_at (λ i v. pair_by (rule_at r i) v) i l) ≡ pos 0
  unfolding side_total map_at
  no-side side z i [] a = refl
  no-side side z i (v ∷ l) a = rw (pair-idle (rule_at r i) v a.0.1, z, no-side side z (suc i) l a.1)

idle-silent : (m : Mixer) → All Idle (voices_of m) → Silent m
idle-silent m a = all-imp Idle Inaudible (λ v i. i.0) (voices_of m) a

-- a mono frame of a silent state is 0 and leaves it silent, whatever the marks
pub mono-silent : (r : Marks) (m : Mixer) → Valid m → Silent m → ((mono_frame_by r m).pcm ≡ pos 0) × Silent (mono_frame_by r m).mixer
unfolding mono_frame_by
mono-silent r m h s =
    let on = r.sounds_on in
    let v = valid-enveloped (valid-advanced on h) in
    let b = enveloped (advanced_by on m) in
    let q = marks_advanced m r in
    let a = envelope-silent (advanced_by on m) (advance-silent on m h s) in
    let full : b.n ≤ length b.voices = omega (arith, v.few, v.full) in
    (rw (no-mix q b (λ e. (v.fade e).0) full a) (silent-level q b), rw (same-sampled (sampled_count b) b (sampled-there v) a) (idle-silent b a))

-- and so is a stereo frame
pub stereo-silent : (r : Marks) (m : Mixer) → Valid m → Silent m
    → ((stereo_frame_by r m).left ≡ pos 0) × ((stereo_frame_by r m).right ≡ pos 0) × Silent (stereo_frame_by r m).mixer
unfolding stereo_frame_by
stereo-silent r m h s =
    let on = r.sounds_on in
    let b = enveloped (advanced_by on m) in
    let q = marks_advanced m r in
    let a = envelope-silent (advanced_by on m) (advance-silent on m h s) in (
      rw (no-side q left_of refl 0 (voices_of b) a) (silent-level q b),
      rw (no-side q right_of refl 0 (voices_of b) a) (silent-level q b),
      rw (same-sampled b.n b (omega arith) a) (idle-silent b a),
    )
