-- The frames of a run, from the runs of the voices. Assumes nothing.
use Rattle.std.specs.Prelude.{None, Option}
use Prim.Native.Nat.{ℕ, zero, suc, ◌+◌, ◌*◌, ◌≤◌, ◌<◌}
use native.Mathlib.Nat.{zero-mul, mul-zero, suc-mul, add-zero}
use native.Mathlib.Omega.{arith}
use mathlib.Core.Path.{◌≡◌, refl, sym, ap, ◌∙◌}
use mathlib.Core.Bool.{Bool, true, false, cond}
use mathlib.Core.List.{List, [], ◌∷◌, map}
use borrow.Author.Tests.{eq-eqb, ne_eqb}
use lib.Dec.{eqb}
use lib.IntN.{ℤ}
use lib.ListN.{length, get_or, set, length-set}
use Rattle.fixed.specs.Fixed.{gained_by}
use Rattle.laws.specs.Lists.{map_first}
use Rattle.laws.specs.Runs.{after, given}
use Rattle.laws.proofs.Bools.{never}
use lib.Seq.{get_or-set_same, get_or-set_other}
use Rattle.laws.proofs.Lists.{length-map_first, take-map_first}
use Rattle.mixer.specs.Mixers.{voices_of, with_voices}
use Rattle.mixer.specs.declared.Mixer.{Mixer}
use Rattle.voice.specs.Voices as S
use Rattle.voice.specs.Voices.{ticked_voice, stepped_voice, silent_voice}
use Rattle.voice.specs.declared.Voice.{Voice}
use Rattle.voice.specs.declared.source.VoiceSource.TheVariants as I
use Rattle.envelope.specs.Adsrs as A
use Rattle.frame.specs.Fades.{voice_at, fade_ended_with, fade_ended_by, fade_at, next_t, advanced_by, advanced, marks_ended, marks_advanced}
use Rattle.frame.specs.Places.{map_at}
use Rattle.marks.specs.declared.Marks.{Marks}
use Rattle.frame.proofs.Places.{map_at-map}
use Rattle.frame.specs.Frames.{enveloped, sampled, leveled, averaged, crossed, mono_mix, mono_frame_by, left_of, right_of, side_total, pairs_of, stereo_frame_by}
use Rattle.frame.specs.Runs.{mono_step, stereo_step}
use Rattle.marks.specs.Marks.{rule_at}
use Rattle.frame.proofs.Voices.{get_d-map_first}
use Rattle.voice.specs.Blocks.{voice_step, voice_answer, voice_run}
use Rattle.block.specs.Parts.{Slow, pace}
use Rattle.block.proofs.Sums.{sum_at}

-- ---- steps that give one thing each
module _ {State A : Type 0} (step : State → State) (f : State → A) where
  pub given-at : (n k : ℕ) (s : State) (d : A) → k < n → get_or (given step (λ s. f s ∷ []) n s) k d ≡ f (after step k s)
  unfolding given after
  given-at zero k s d h = absurd (omega arith)
  given-at (suc n) zero s d h = refl
  given-at (suc n) (suc k) s d h = given-at n k (step s) d (omega arith)

  pub given-length : (n : ℕ) (s : State) → length (given step (λ s. f s ∷ []) n s) ≡ n
  unfolding given
  given-length zero s = refl
  given-length (suc n) s = ap suc (given-length n (step s))

-- ---- the first n of a list
module _ {A : Type 0} where
  map_first-fuse : (g f : A → A) (n : ℕ) (l : List A) → map_first g n (map_first f n l) ≡ map_first (λ x. g (f x)) n l
  map_first-fuse g f zero l = refl
  map_first-fuse g f (suc n) [] = refl
  map_first-fuse g f (suc n) (x ∷ l) = ap (λ (r : List A). g (f x) ∷ r) (map_first-fuse g f n l)

  map_first-all : (f : A → A) → ((x : A) → f x ≡ x) → (n : ℕ) (l : List A) → map_first f n l ≡ l
  map_first-all f e zero l = refl
  map_first-all f e (suc n) [] = refl
  map_first-all f e (suc n) (x ∷ l) = rw (e x, map_first-all f e n l)

-- ---- how the fade moves

-- m with other voices, at t
abbrev pub moved : Mixer → List Voice → ℕ → Mixer
moved m vs t = fade_at (with_voices m vs) t

pub advanced-lasting : (on : Bool) (m : Mixer) → Slow m 1 → advanced_by on m ≡ fade_at m (m.crossfade_t_q8 + pace m)
unfolding advanced_by fade_at
advanced-lasting on m h = by-active m.crossfade_active refl
  where
    by-active : (a : Bool) → m.crossfade_active ≡ a
        → cond a (cond (eqb (next_t m) 255) (fade_ended_by on m) (fade_at m (next_t m))) m ≡ fade_at m (m.crossfade_t_q8 + cond a m.crossfade_step_q8 0)
    by-active true a =
        let l = h a (omega arith) in
        let e : eqb (next_t m) 255 ≡ false = ne_eqb (next_t m) 255 (λ q. omega arith) in
        let t : next_t m ≡ m.crossfade_t_q8 + m.crossfade_step_q8 = omega arith in
        rw (e, t)
    by-active false a = rw add-zero

-- whichever call began the fade
pub advanced-same : (on : Bool) (m : Mixer) → Slow m 1 → advanced_by on m ≡ advanced m
advanced-same on m h = advanced-lasting on m h ∙ sym (advanced-lasting false m h)

-- the state after k frames of a fade that goes on after one more
goes_on : (k : ℕ) (m : Mixer) (vs : List Voice) → Slow m (suc k) → Slow (moved m vs (m.crossfade_t_q8 + k * pace m)) 1
unfolding fade_at
goes_on k m vs h a z =
    let s = m.crossfade_step_q8 in
    let l = h a (omega arith) in
    let e = suc-mul k s in
    let f = suc-mul 0 s in
    let g = zero-mul s in
    rw a (omega arith)

lasts-fewer : (k : ℕ) (m : Mixer) → Slow m (suc k) → Slow m k
lasts-fewer k m h a z = let e = suc-mul k m.crossfade_step_q8 in omega (arith, h a (omega arith))

-- a step that moves the voices by G and t by the pace, k times; P is what it needs of a state
module _ (step : Mixer → Mixer) (P : ℕ → List Voice → Bool → Type 0) (G : ℕ → ℕ → List Voice → List Voice)
    (none : (n : ℕ) (vs : List Voice) (a : Bool) → P n vs a → G 0 n vs ≡ vs)
    (more : (k n : ℕ) (vs : List Voice) (a : Bool) → P n vs a → G k n (G 1 n vs) ≡ G (suc k) n vs)
    (keeps : (n : ℕ) (vs : List Voice) (a : Bool) → P n vs a → P n (G 1 n vs) a)
    (one : (m : Mixer) → P m.n m.voices m.crossfade_active → Slow m 1 → step m ≡ moved m (G 1 m.n m.voices) (m.crossfade_t_q8 + pace m)) where
  lasts-less : (k : ℕ) (t s : ℕ) → t + suc k * s < 255 → t + s + k * s < 255
  lasts-less k t s h = let e = suc-mul k s in omega arith

  lasts-first : (k : ℕ) (t s : ℕ) → t + suc k * s < 255 → t + 1 * s < 255
  lasts-first k t s h = let e = suc-mul k s in let f = suc-mul 0 s in let g = zero-mul s in omega arith

  after-moved : (k : ℕ) (m : Mixer) → P m.n m.voices m.crossfade_active → Slow m k
      → after step k m ≡ moved m (G k m.n m.voices) (m.crossfade_t_q8 + k * pace m)
  unfolding after fade_at
  after-moved zero m p h = rw (none m.n m.voices m.crossfade_active p, zero-mul, add-zero)
  after-moved (suc k) m p h =
      rw (one m p (λ a z. lasts-first k m.crossfade_t_q8 m.crossfade_step_q8 (h a (omega arith))))
      (after-moved k (moved m (G 1 m.n m.voices) (m.crossfade_t_q8 + pace m)) (keeps m.n m.voices m.crossfade_active p)
      (λ a z. rw a (lasts-less k m.crossfade_t_q8 m.crossfade_step_q8 (h a (omega arith))))
      ∙ rw (more k m.n m.voices m.crossfade_active p)
      (ap (λ (t : ℕ). moved m (G (suc k) m.n m.voices) t) (let e = suc-mul k (pace m) in omega arith)))

-- ---- all voices sampled: a stereo frame, and a mono frame outside a fade

-- the voices after k frames in which each is sampled
abbrev pub run_all : ℕ → ℕ → List Voice → List Voice
run_all k n vs = map_first (after voice_step k) n vs

stereo-one : (m : Mixer) → Slow m 1 → stereo_step m ≡ moved m (run_all 1 m.n m.voices) (m.crossfade_t_q8 + pace m)
unfolding after voice_step fade_at stereo_frame_by sampled enveloped
stereo-one m h = rw (advanced-lasting false m h, map_first-fuse (λ v. (stepped_voice v).voice) ticked_voice m.n m.voices)

pub after-stereo : (k : ℕ) (m : Mixer) → Slow m k → after stereo_step k m ≡ moved m (run_all k m.n m.voices) (m.crossfade_t_q8 + k * pace m)
unfolding after
after-stereo k m h =
    after-moved stereo_step (λ n vs a. Unit {0}) run_all
    (λ n vs a p. map_first-all (after voice_step 0) (λ v. refl) n vs)
    (λ k n vs a p. map_first-fuse (after voice_step k) (after voice_step 1) n vs)
    (λ n vs a p. tt)
    (λ m p h. stereo-one m h)
    k m tt h

-- ---- within a fade: voices 0 and 1 sampled, the others' envelopes ticked

-- the voices after k mono frames of a fade
abbrev pub run_pair : ℕ → ℕ → List Voice → List Voice
run_pair k n vs =
    set (set (map_first (after ticked_voice k) n vs) 0 (after voice_step k (get_or vs 0 (silent_voice 0)))) 1 (after voice_step k (get_or vs 1 (silent_voice 0)))

abbrev pub Pair : ℕ → List Voice → Bool → Type 0
Pair n vs a = (a ≡ true) × (2 ≤ n) × (2 ≤ length vs)

pair-none : (n : ℕ) (vs : List Voice) (a : Bool) → Pair n vs a → run_pair 0 n vs ≡ vs
unfolding after
pair-none zero vs a p = absurd (omega arith)
pair-none (suc zero) vs a p = absurd (omega arith)
pair-none (suc (suc n)) [] a p = absurd (omega arith)
pair-none (suc (suc n)) (v ∷ []) a p = absurd (omega arith)
pair-none (suc (suc n)) (v ∷ w ∷ vs) a p = rw (map_first-all (after ticked_voice 0) (λ v. refl) n vs)

pair-more : (k n : ℕ) (vs : List Voice) (a : Bool) → Pair n vs a → run_pair k n (run_pair 1 n vs) ≡ run_pair (suc k) n vs
unfolding after
pair-more k zero vs a p = absurd (omega arith)
pair-more k (suc zero) vs a p = absurd (omega arith)
pair-more k (suc (suc n)) [] a p = absurd (omega arith)
pair-more k (suc (suc n)) (v ∷ []) a p = absurd (omega arith)
pair-more k (suc (suc n)) (v ∷ w ∷ vs) a p = rw (map_first-fuse (after ticked_voice k) (after ticked_voice 1) n vs)

pub pair-length : (k n : ℕ) (vs : List Voice) → length (run_pair k n vs) ≡ length vs
pair-length k n vs = rw (length-set, length-set, length-map_first (after ticked_voice k) n vs)

pair_one : (n : ℕ) (vs : List Voice) → 2 ≤ n → 2 ≤ length vs → map_first (λ v. (stepped_voice v).voice) 2 (map_first ticked_voice n vs) ≡ run_pair 1 n vs
unfolding after voice_step
pair_one zero vs h k = absurd (omega arith)
pair_one (suc zero) vs h k = absurd (omega arith)
pair_one (suc (suc n)) [] h k = absurd (omega arith)
pair_one (suc (suc n)) (v ∷ []) h k = absurd (omega arith)
pair_one (suc (suc n)) (v ∷ w ∷ vs) h k = refl

mono-one : (m : Mixer) → Pair m.n m.voices m.crossfade_active → Slow m 1
    → mono_step m ≡ moved m (run_pair 1 m.n m.voices) (m.crossfade_t_q8 + pace m)
unfolding fade_at mono_frame_by sampled enveloped
mono-one m p h = rw (advanced-lasting false m h, p.0, pair_one m.n m.voices p.1 p.2)

pub after-pair : (k : ℕ) (m : Mixer) → Pair m.n m.voices m.crossfade_active → Slow m k
    → after mono_step k m ≡ moved m (run_pair k m.n m.voices) (m.crossfade_t_q8 + k * pace m)
after-pair k m p h =
    after-moved mono_step Pair run_pair pair-none pair-more
    (λ n vs a p. (p.0, p.1, omega (arith, pair-length 1 n vs, p.2)))
    mono-one
    k m p h

-- ---- what a frame gives

-- what a voice answers in frame k, by a rule of gain 255
abbrev pub answer_at : Bool → ℕ → Voice → Option ℤ
answer_at w k v = S.sample_by w (ticked_voice (after voice_step k v))

pub run_at : (w : Bool) (n k : ℕ) (v : Voice) → k < n → get_or (voice_run w n v) k None ≡ answer_at w k v
unfolding voice_answer
run_at w n k v h = given-at voice_step (λ v. S.sample_by w (ticked_voice v)) n k v None h

-- the marks stay as they are where the frame ends no fade
marks-quiet : (r : Marks) (m : Mixer) → m.crossfade_active ≡ false → marks_advanced m r ≡ r
unfolding marks_advanced
marks-quiet r m e = rw e

pub marks-lasting : (r : Marks) (m : Mixer) → Slow m 1 → marks_advanced m r ≡ r
unfolding marks_advanced
marks-lasting r m h = by-active m.crossfade_active refl
  where
    by-active : (a : Bool) → m.crossfade_active ≡ a → cond a (cond (eqb (next_t m) 255) (marks_ended r) r) r ≡ r
    by-active true a = let l = h a (omega arith) in let e : eqb (next_t m) 255 ≡ false = ne_eqb (next_t m) 255 (λ q. omega arith) in rw e
    by-active false a = refl

-- outside a fade

advanced-quiet : (on : Bool) (m : Mixer) → m.crossfade_active ≡ false → advanced_by on m ≡ m
unfolding advanced_by
advanced-quiet on m e = rw e

stereo-quiet : (m : Mixer) → m.crossfade_active ≡ false → (stereo_step m).crossfade_active ≡ false
unfolding stereo_frame_by sampled enveloped
stereo-quiet m e = rw (advanced-quiet false m e) e

mono-stereo : (m : Mixer) → m.crossfade_active ≡ false → mono_step m ≡ stereo_step m
unfolding mono_frame_by stereo_frame_by enveloped
mono-stereo m e = rw (advanced-quiet false m e, e)

after-quiet : (k : ℕ) (m : Mixer) → m.crossfade_active ≡ false → after mono_step k m ≡ after stereo_step k m
unfolding after
after-quiet zero m e = refl
after-quiet (suc k) m e = rw (mono-stereo m e) (after-quiet k (stereo_step m) (stereo-quiet m e))

-- the state after k mono frames
pub after-plain : (k : ℕ) (m : Mixer) → m.crossfade_active ≡ false → after mono_step k m ≡ with_voices m (run_all k m.n m.voices)
unfolding fade_at
after-plain k m e =
    after-quiet k m e ∙ after-stereo k m (λ a z. never (sym e ∙ a)) ∙ rw (e, mul-zero, add-zero)

mono-plain : (r : Marks) (m : Mixer) → m.crossfade_active ≡ false
    → (mono_frame_by r m).pcm ≡ leveled r m (averaged (map_at (λ i v. answer_at (rule_at r i) 0 v) 0 (voices_of m)))
unfolding mono_frame_by mono_mix enveloped after
mono-plain r m e =
    rw (
      marks-quiet r m e,
      advanced-quiet r.sounds_on m e,
      e,
      take-map_first ticked_voice m.n m.voices,
      map_at-map (λ i v. S.sample_by (rule_at r i) v) ticked_voice 0 (voices_of m),
    )

-- the sample of frame k
pub mono-plain-at : (r : Marks) (k : ℕ) (m : Mixer) → m.crossfade_active ≡ false
    → (mono_frame_by r (after mono_step k m)).pcm ≡ leveled r m (averaged (map_at (λ i v. answer_at (rule_at r i) k v) 0 (voices_of m)))
unfolding after
mono-plain-at r k m e =
    rw (
      after-plain k m e,
      mono-plain r (with_voices m (run_all k m.n m.voices)) e,
      take-map_first (after voice_step k) m.n m.voices,
      map_at-map (λ i v. answer_at (rule_at r i) 0 v) (after voice_step k) 0 (voices_of m),
    )

-- within a fade
mono-crossed : (r : Marks) (m : Mixer) → Pair m.n m.voices m.crossfade_active → Slow m 1
    → (mono_frame_by r m).pcm
    ≡ leveled r m (crossed (m.crossfade_t_q8 + m.crossfade_step_q8) (S.sample_by (rule_at r 0) (ticked_voice (voice_at m 0))) (S.sample_by (rule_at r 1) (ticked_voice (voice_at m 1))))
unfolding fade_at mono_frame_by mono_mix enveloped
mono-crossed r m p h =
    let two = p.1 in
    let there = p.2 in
    rw (
      marks-lasting r m h,
      advanced-lasting r.sounds_on m h,
      p.0,
      get_d-map_first ticked_voice m.n 0 m.voices (silent_voice 0) (omega arith) (omega arith),
      get_d-map_first ticked_voice m.n 1 m.voices (silent_voice 0) (omega arith) (omega arith),
    )

fade-pair : (k : ℕ) (m : Mixer) → Pair m.n m.voices m.crossfade_active
    → let s = moved m (run_pair k m.n m.voices) (m.crossfade_t_q8 + k * pace m) in Pair s.n s.voices s.crossfade_active
unfolding fade_at
fade-pair k m p = (p.0, p.1, omega (arith, pair-length k m.n m.voices, p.2))

first-at : (k n : ℕ) (vs : List Voice) → 2 ≤ length vs → get_or (run_pair k n vs) 0 (silent_voice 0) ≡ after voice_step k (get_or vs 0 (silent_voice 0))
first-at k n vs h =
    let l = length-map_first (after ticked_voice k) n vs in
    rw (
      get_or-set_other (set (map_first (after ticked_voice k) n vs) 0 (after voice_step k (get_or vs 0 (silent_voice 0)))) 1 0 (after voice_step k (get_or vs 1 (silent_voice 0))) (silent_voice 0) (λ e. omega arith),
      get_or-set_same (map_first (after ticked_voice k) n vs) 0 (after voice_step k (get_or vs 0 (silent_voice 0))) (silent_voice 0) (omega arith),
    )

second_at : (k n : ℕ) (vs : List Voice) → 2 ≤ length vs → get_or (run_pair k n vs) 1 (silent_voice 0) ≡ after voice_step k (get_or vs 1 (silent_voice 0))
second_at k n vs h =
    let x = after voice_step k (get_or vs 0 (silent_voice 0)) in
    let l = length-map_first (after ticked_voice k) n vs in
    let g = length-set (map_first (after ticked_voice k) n vs) 0 x in
    get_or-set_same (set (map_first (after ticked_voice k) n vs) 0 x) 1 (after voice_step k (get_or vs 1 (silent_voice 0))) (silent_voice 0) (omega arith)

-- the sample of frame k of a fade
pub mono-fade-at : (r : Marks) (k : ℕ) (m : Mixer) → Pair m.n m.voices m.crossfade_active → Slow m (suc k)
    → (mono_frame_by r (after mono_step k m)).pcm
    ≡ leveled r m (crossed (m.crossfade_t_q8 + suc k * m.crossfade_step_q8) (answer_at (rule_at r 0) k (voice_at m 0)) (answer_at (rule_at r 1) k (voice_at m 1)))
unfolding fade_at
mono-fade-at r k m p h =
    let two = p.1 in
    let there = p.2 in
    let step = m.crossfade_step_q8 in
    let t = m.crossfade_t_q8 in
    let s = moved m (run_pair k m.n m.voices) (t + k * pace m) in
    let q : Pair s.n s.voices s.crossfade_active = fade-pair k m p in
    let e = suc-mul k step in
    let g : t + k * pace m + step ≡ t + suc k * step = rw p.0 (omega arith) in
    rw (
      after-pair k m p (lasts-fewer k m h),
      mono-crossed r s q (goes_on k m s.voices h),
      first-at k m.n m.voices there,
      second_at k m.n m.voices there,
      g,
    )

-- in stereo
pan-ticked : (v : Voice) → (ticked_voice v).pan_q8 ≡ v.pan_q8
unfolding ticked_voice
pan-ticked v = by-test (S.audible (S.sounding v v.source (A.ticked v.adsr)))
  where
    by-test : (b : Bool)
        → (cond b (S.sounding v v.source (A.ticked v.adsr)) (S.sounding v I.Idle (A.ticked v.adsr))).pan_q8 ≡ v.pan_q8
    by-test true = refl
    by-test false = refl

pan-stepped : (v : Voice) → (stepped_voice v).voice.pan_q8 ≡ v.pan_q8
unfolding stepped_voice
pan-stepped v = refl

pan-after : (k : ℕ) (v : Voice) → (after voice_step k v).pan_q8 ≡ v.pan_q8
unfolding after voice_step
pan-after zero v = refl
pan-after (suc k) v = pan-after k (voice_step v) ∙ pan-stepped (ticked_voice v) ∙ pan-ticked v

-- what a voice adds to a side in frame k
abbrev pub side_at : (Option (ℤ × ℤ) → ℤ) → Marks → ℕ → ℕ → Voice → ℤ
side_at side r k i v = side (S.panned_by (gained_by (rule_at r i)) v.pan_q8 (answer_at (rule_at r i) k v))

side-sum : (side : Option (ℤ × ℤ) → ℤ) (r : Marks) (k i : ℕ) (vs : List Voice)
    → side_total side (map_at (λ i v. S.pair_by (rule_at r i) v) i (map ticked_voice (map (after voice_step k) vs))) ≡ sum_at (side_at side r k) i vs
unfolding side_total sum_at map_at S.pair_by
side-sum side r k i [] = refl
side-sum side r k i (v ∷ vs) = rw (side-sum side r k (suc i) vs, pan-ticked (after voice_step k v), pan-after k v)

side-enveloped : (side : Option (ℤ × ℤ) → ℤ) (r : Marks) (k : ℕ) (m : Mixer) (t : ℕ)
    → side_total side (pairs_of r (voices_of (enveloped (moved m (run_all k m.n m.voices) t)))) ≡ sum_at (side_at side r k) 0 (voices_of m)
unfolding enveloped fade_at
side-enveloped side r k m t =
    rw (
      take-map_first ticked_voice m.n (run_all k m.n m.voices),
      take-map_first (after voice_step k) m.n m.voices,
      side-sum side r k 0 (voices_of m),
    )

advanced-moved : (on : Bool) (m : Mixer) (vs : List Voice) (t : ℕ) → Slow (moved m vs t) 1 → advanced_by on (moved m vs t) ≡ moved m vs (t + pace m)
unfolding fade_at
advanced-moved on m vs t h = advanced-lasting on (moved m vs t) h

abbrev side_frame : (Option (ℤ × ℤ) → ℤ) → Marks → Mixer → ℤ
side_frame side r m =
    let b = enveloped (advanced_by r.sounds_on m) in
    let q = marks_advanced m r in
    leveled q b (side_total side (pairs_of q (voices_of b)))

level-kept : (r : Marks) (m : Mixer) (vs : List Voice) (t : ℕ) (z : ℤ) → leveled r (enveloped (moved m vs t)) z ≡ leveled r m z
unfolding enveloped fade_at
level-kept r m vs t z = refl

side-at : (side : Option (ℤ × ℤ) → ℤ) (r : Marks) (k : ℕ) (m : Mixer) → Slow m (suc k)
    → side_frame side r (after stereo_step k m) ≡ leveled r m (sum_at (side_at side r k) 0 (voices_of m))
side-at side r k m h =
    let vs = run_all k m.n m.voices in
    let t = m.crossfade_t_q8 + k * pace m in
    rw (after-stereo k m (lasts-fewer k m h), marks-lasting r (moved m vs t) (goes_on k m vs h), advanced-moved r.sounds_on m vs t (goes_on k m vs h))
    (level-kept r m vs (t + pace m) (side_total side (pairs_of r (voices_of (enveloped (moved m vs (t + pace m))))))
    ∙ ap (leveled r m) (side-enveloped side r k m (t + pace m)))

-- the samples of stereo frame k
pub left_at : (r : Marks) (k : ℕ) (m : Mixer) → Slow m (suc k)
    → (stereo_frame_by r (after stereo_step k m)).left ≡ leveled r m (sum_at (side_at left_of r k) 0 (voices_of m))
unfolding stereo_frame_by
left_at r k m h = side-at left_of r k m h

pub right-at : (r : Marks) (k : ℕ) (m : Mixer) → Slow m (suc k)
    → (stereo_frame_by r (after stereo_step k m)).right ≡ leveled r m (sum_at (side_at right_of r k) 0 (voices_of m))
unfolding stereo_frame_by
right-at r k m h = side-at right_of r k m h

-- ---- the frame in which the fade ends

-- a fade that the next frame ends
pub record Ends (m : Mixer) : Type 0 where
  pub active : m.crossfade_active ≡ true
  pub last : 255 ≤ m.crossfade_t_q8 + m.crossfade_step_q8

pub ended-quiet : (on : Bool) (m : Mixer) → (fade_ended_by on m).crossfade_active ≡ false
unfolding fade_ended_with
ended-quiet on m = refl

ending-is : (on : Bool) (m : Mixer) → Ends m → advanced_by on m ≡ fade_ended_by on m
unfolding advanced_by
ending-is on m h =
    let l = h.last in
    let e : eqb (next_t m) 255 ≡ true = eq-eqb (next_t m) 255 (omega arith) in
    rw (h.active, e)

advanced-ending : (on : Bool) (m : Mixer) → Ends m → advanced_by on m ≡ advanced_by on (fade_ended_by on m)
advanced-ending on m h = ending-is on m h ∙ sym (advanced-quiet on (fade_ended_by on m) (ended-quiet on m))

-- the marks go with the sources
marks-end : (r : Marks) (m : Mixer) → Ends m → marks_advanced m r ≡ marks_ended r
unfolding marks_advanced
marks-end r m h =
    let l = h.last in
    let e : eqb (next_t m) 255 ≡ true = eq-eqb (next_t m) 255 (omega arith) in
    rw (h.active, e)

pub marks-ending : (on : Bool) (r : Marks) (m : Mixer) → Ends m → marks_advanced m r ≡ marks_advanced (fade_ended_by on m) (marks_ended r)
marks-ending on r m h = marks-end r m h ∙ sym (marks-quiet (marks_ended r) (fade_ended_by on m) (ended-quiet on m))

-- such a frame is the frame of the state with the fade ended, of both kinds
pub mono-ending : (r : Marks) (m : Mixer) → Ends m → mono_frame_by r m ≡ mono_frame_by (marks_ended r) (fade_ended_by r.sounds_on m)
unfolding mono_frame_by
mono-ending r m h = rw (advanced-ending r.sounds_on m h, marks-ending r.sounds_on r m h)

pub stereo-ending : (r : Marks) (m : Mixer) → Ends m → stereo_frame_by r m ≡ stereo_frame_by (marks_ended r) (fade_ended_by r.sounds_on m)
unfolding stereo_frame_by
stereo-ending r m h = rw (advanced-ending r.sounds_on m h, marks-ending r.sounds_on r m h)

-- frames from two states from which the first step is the same
module _ {State : Type 0} (step : State → State) (a b : State) (e : step a ≡ step b) where
  pub after_same : (k : ℕ) → 0 < k → after step k a ≡ after step k b
  unfolding after
  after_same zero h = absurd (omega arith)
  after_same (suc k) h = rw e

  pub samples-same : (sample : State → ℤ) → sample a ≡ sample b → (k : ℕ) → sample (after step k a) ≡ sample (after step k b)
  unfolding after
  samples-same sample s zero = s
  samples-same sample s (suc k) = rw e
