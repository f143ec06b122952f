-- Sums and counts over the voices, cell by cell, as the loops over the voices have them. Assumes nothing.
use Rattle.std.specs.Prelude.{None, Option}
use Prim.Native.Nat.{ℕ, zero, suc, ◌+◌, ◌-◌, ◌*◌, ◌≤◌, ◌<◌, min}
use native.Mathlib.Nat.{mul-le-mul_right}
use native.Mathlib.Numerals.{add-one}
use native.Mathlib.Omega.{arith}
use mathlib.Core.Path.{◌≡◌, refl, sym, ap, ◌∙◌}
use mathlib.Core.Logic.{inl, inr}
use mathlib.Core.Bool.{Bool, false}
use mathlib.Core.List.{List}
use borrow.Author.Tests.{lt-ltb, le-ltb}
use lib.IntN.{ℤ, pos, ◌+ℤ◌, +ℤ_idr}
use lib.ListN.{length, get_or, take, drop, set, replicate, length-replicate, get_or-append}
use lib.Seq.{take-suc, length-take-le}
use Rattle.fixed.proofs.Answers.{answer_at_lem, no_answer, heard-short}
use Rattle.fixed.specs.Answers.{heard, Filled}
use Rattle.fixed.specs.Fixed.{factor_of, pan_gains}
use Rattle.fixed.specs.declared.PanGains.{PanGains}
use Rattle.frame.specs.Frames.{leveled, crossed, mono_frame_by, stereo_frame_by, left_of, right_of}
use Rattle.marks.specs.Marks.{rule_at}
use Rattle.marks.specs.declared.Marks.{Marks}
use Rattle.frame.specs.Runs.{mono_step, stereo_step}
use Rattle.frame.specs.Fades.{voice_at, fade_at}
use Rattle.laws.proofs.Lists.{get_d_any}
use Rattle.laws.specs.Lists.{map_first}
use Rattle.laws.specs.Runs.{after}
use Rattle.mixer.specs.Mixers.{voices_of, with_voices}
use Rattle.mixer.proofs.Laws.{map-step}
use Rattle.mixer.specs.declared.Mixer.{Mixer}
use Rattle.voice.proofs.Runs.{voice-stops}
use Rattle.voice.specs.Blocks.{voice_step, voice_answer, voice_run, VoiceBlock}
use Rattle.voice.specs.Voices.{silent_voice, ticked_voice, sample_by}
use Rattle.voice.specs.declared.Voice.{Voice}
use Rattle.block.specs.Parts.{Slow, frame_at, moved_on, rested_others}
use Rattle.fixed.specs.declared.Step.{Step}
use Rattle.block.proofs.Parts.{read_at, others-stored}
use Rattle.block.specs.Cells.{Within, AtMost, Added, Tallied, mean_of, mean_at, cell_answer, faded_at}
use Rattle.block.proofs.Cells.{le-or-gt}
use Rattle.block.proofs.Sums.{sum_at, sum-last, count_at, count-last, value_of, one_of, averaged-sum, left_value, right_value}
use Rattle.block.proofs.Frames.{run_all, given-length, answer_at, run_at, Pair, after-pair, mono-plain-at, mono-fade-at, side_at, left_at, right-at}

-- what a voice answers in frame k stands in its cells
pub cell-answer : {len n : ℕ} {cells filled : List ℤ} (w : Bool) (v : Voice) (k : ℕ) → len ≤ 256 → Filled (voice_run w (min len 256) v) cells n filled → k < len
    → answer_at w k v ≡ cell_answer filled n k
cell-answer {len = len} {n = n} {cells = cells} {filled = filled} w v k l f h =
    let e : min len 256 ≡ len = omega arith in
    let run = voice_run w (min len 256) v in
    let a : answer_at w k v ≡ get_or run k None = sym (run_at w (min len 256) k v (omega arith)) in
    elim (le-or-gt n k) [
      | inl p ↦ a ∙ no_answer run (voice-stops w (min len 256) v) k (omega (arith, f.count)) ∙ rw (le-ltb k n p)
      | inr p ↦
          (let q : k < length (heard run) = omega (arith, f.count) in
          a
          ∙ answer_at_lem run (voice-stops w (min len 256) v) k q
          ∙ rw (lt-ltb k n p, f.taken, get_or-append (heard run) (drop (length (heard run)) cells) (pos 0) k q))
    ]

added-cell : {samples : List ℤ} {gain n : ℕ} {was is : List ℤ} (k : ℕ) → Added samples gain n was is
    → get_or is k (pos 0) ≡ get_or was k (pos 0) +ℤ value_of gain (cell_answer samples n k)
unfolding value_of
added-cell {n = n} {was = was} k a =
    elim (le-or-gt n k) [
      | inl p ↦ rw (le-ltb k n p, +ℤ_idr (get_or was k (pos 0))) (a.cells.behind k p)
      | inr p ↦ rw (lt-ltb k n p) (a.cells.there k (omega arith) p)
    ]

tallied-cell : {n : ℕ} {was is : List ℕ} (samples : List ℤ) (k : ℕ) → Tallied n was is → get_or is k 0 ≡ get_or was k 0 + one_of (cell_answer samples n k)
unfolding one_of
tallied-cell {n = n} samples k a =
    elim (le-or-gt n k) [
      | inl p ↦ rw (le-ltb k n p) (omega (arith, a.cells.behind k p))
      | inr p ↦ rw (lt-ltb k n p) (omega (arith, a.cells.there k (omega arith) p))
    ]

-- no more are given than the block has cells
pub given-few : {n : ℕ} {cells filled : List ℤ} (w : Bool) (len : ℕ) (v : Voice) → Filled (voice_run w (min len 256) v) cells n filled → n ≤ 256
unfolding voice_answer
given-few w len v f =
    omega (arith, f.count, heard-short (voice_run w (min len 256) v), given-length voice_step (λ v. sample_by w (ticked_voice v)) (min len 256) v)

-- ---- after the first i voices

-- cell k holds the sum of what they add in frame k
pub record Summed (f : ℕ → ℕ → Voice → ℤ) (len i : ℕ) (vs : List Voice) (sums : List ℤ) : Type 0 where
  pub full : length sums ≡ 256
  pub small : Within (i * 128) sums
  pub cells : (k : ℕ) → k < len → get_or sums k (pos 0) ≡ sum_at (f k) 0 (take i vs)

-- and how many gave a sample
pub record Counted (r : Marks) (len i : ℕ) (vs : List Voice) (counts : List ℕ) : Type 0 where
  pub full : length counts ≡ 256
  pub small : AtMost i counts
  pub cells : (k : ℕ) → k < len → get_or counts k 0 ≡ count_at (λ j v. answer_at (rule_at r j) k v) 0 (take i vs)

same-cell : {A : Type 0} (n : ℕ) (x : A) (k : ℕ) → get_or (replicate n x) k x ≡ x
same-cell zero x k = refl
same-cell (suc n) x zero = refl
same-cell (suc n) x (suc k) = same-cell n x k

pub summed-none : (f : ℕ → ℕ → Voice → ℤ) (len : ℕ) (vs : List Voice) → Summed f len 0 vs (replicate 256 (pos 0))
unfolding sum_at
summed-none f len vs =
    record { full = length-replicate 256 (pos 0); small = λ j. rw (same-cell 256 (pos 0) j) (omega arith); cells = λ k h. same-cell 256 (pos 0) k }

pub counted_none : (r : Marks) (len : ℕ) (vs : List Voice) → Counted r len 0 vs (replicate 256 0)
unfolding count_at
counted_none r len vs =
    record { full = length-replicate {A = ℕ} 256 0; small = λ j. rw (same-cell {A = ℕ} 256 0 j) (omega arith); cells = λ k h. same-cell {A = ℕ} 256 0 k }

-- the place after the first i
place_at : {A : Type 0} (i : ℕ) (l : List A) → i < length l → 0 + length (take i l) ≡ i
place_at i l h = omega (arith, length-take-le i l (omega arith))

-- one voice more
module _ {len i n : ℕ} {vs : List Voice} {v : Voice} {cells samples : List ℤ} (w : Bool) (d : Voice) (l : len ≤ 256) (there : i < length vs) (e : v ≡ get_or vs i d)
    (filled : Filled (voice_run w (min len 256) v) cells n samples) where
  pub summed-next : {f : ℕ → ℕ → Voice → ℤ} {gain : ℕ} {sums next : List ℤ} → Summed f len i vs sums → Added samples gain n sums next
      → ((k : ℕ) → f k i v ≡ value_of gain (answer_at w k v)) → Summed f len (i + 1) vs next
  summed-next {f = f} {gain = gain} s a g =
      record {
        full = a.cells.size ∙ s.full;
        small = λ j. omega (arith, a.grown (i * 128) s.small j);
        cells = λ k h.
            (let q : sum_at (f k) 0 (take (i + 1) vs) ≡ sum_at (f k) 0 (take i vs) +ℤ f k i v =
            rw (add-one i, take-suc vs i d there, sum-last (f k) 0 (take i vs) (get_or vs i d), place_at i vs there, e) in
            added-cell k a ∙ rw (s.cells k h, q, g k, cell-answer w v k l filled h));
      }

  pub counted_next : {r : Marks} {counts next : List ℕ} → rule_at r i ≡ w → Counted r len i vs counts → Tallied n counts next → Counted r len (i + 1) vs next
  counted_next {r = r} u s a =
      record {
        full = a.cells.size ∙ s.full;
        small = λ j. omega (arith, a.grown i s.small j);
        cells = λ k h.
            (let f : ℕ → Voice → Option ℤ = λ j v. answer_at (rule_at r j) k v in
            let q : count_at f 0 (take (i + 1) vs) ≡ count_at f 0 (take i vs) + one_of (answer_at w k v) =
            rw (add-one i, take-suc vs i d there, count-last f 0 (take i vs) (get_or vs i d), place_at i vs there, e, u) in
            tallied-cell samples k a ∙ rw (s.cells k h, q, cell-answer w v k l filled h));
      }

-- a turn of a loop over the voices: voice i runs over the block
module _ (m mixed : Mixer) (r : Marks) (len i : ℕ) (d : Voice) {cells samples : List ℤ} {ran : Step Voice ℕ} (l : len ≤ 256) (there : i < length m.voices)
    (inv : mixed ≡ with_voices m (run_all len i m.voices)) (b : VoiceBlock (rule_at r i) (get_or mixed.voices i d) (min len 256) cells ran samples) where
  read : get_or mixed.voices i d ≡ get_or m.voices i d
  read = rw inv (read_at (after voice_step len) i m.voices d)

  pub turn-voices : with_voices mixed (set mixed.voices i ran.voice) ≡ with_voices m (run_all len (i + 1) m.voices)
  turn-voices =
      let e : min len 256 ≡ len = omega arith in
      map-step (after voice_step len) mixed m i ran.voice d inv (b.voice.same ∙ ap (λ (n : ℕ). after voice_step n (get_or mixed.voices i d)) e)

  pub turn-summed : {f : ℕ → ℕ → Voice → ℤ} {gain : ℕ} {sums next : List ℤ} → Summed f len i m.voices sums → Added samples gain ran.given sums next
      → ((k : ℕ) → f k i (get_or mixed.voices i d) ≡ value_of gain (answer_at (rule_at r i) k (get_or mixed.voices i d))) → Summed f len (i + 1) m.voices next
  turn-summed s a g = summed-next (rule_at r i) d l there read b.given s a g

  -- the sides, by the gains of the voice's pan
  pub turn-left : (g : PanGains) (gain : ℕ) {sums next : List ℤ} → g ≡ pan_gains (get_or mixed.voices i d).pan_q8 → gain ≡ factor_of (rule_at r i) g.left
      → Summed (side_at left_of r) len i m.voices sums → Added samples gain ran.given sums next → Summed (side_at left_of r) len (i + 1) m.voices next
  turn-left g gain e q s a =
      let v = get_or mixed.voices i d in
      turn-summed s a (λ k. left_value (rule_at r i) v.pan_q8 (answer_at (rule_at r i) k v) ∙ rw (q, e))

  pub turn-right : (g : PanGains) (gain : ℕ) {sums next : List ℤ} → g ≡ pan_gains (get_or mixed.voices i d).pan_q8 → gain ≡ factor_of (rule_at r i) g.right
      → Summed (side_at right_of r) len i m.voices sums → Added samples gain ran.given sums next → Summed (side_at right_of r) len (i + 1) m.voices next
  turn-right g gain e q s a =
      let v = get_or mixed.voices i d in
      turn-summed s a (λ k. right_value (rule_at r i) v.pan_q8 (answer_at (rule_at r i) k v) ∙ rw (q, e))

  pub turn-counted : {counts next : List ℕ} → Counted r len i m.voices counts → Tallied ran.given counts next → Counted r len (i + 1) m.voices next
  turn-counted s a = counted_next (rule_at r i) d l there read b.given refl s a

-- a fade that goes on after len frames goes on after fewer
pub slow-fewer : (m : Mixer) (k len : ℕ) → k ≤ len → Slow m len → Slow m k
slow-fewer m k len l h a z =
    let b = mul-le-mul_right {m = k} {n = len} m.crossfade_step_q8 l in
    omega (arith, h a (omega arith))

-- ---- after all voices: the frames

abbrev pub mono_value : Marks → ℕ → ℕ → Voice → ℤ
mono_value r k i v = value_of 256 (answer_at (rule_at r i) k v)

-- the master's gain, as a factor
abbrev pub master_of : Marks → Mixer → ℕ
master_of r m = factor_of r.master m.config.master_gain_q8

module _ (m : Mixer) (r : Marks) (len at : ℕ) where
  pub mono-cell : {i gain : ℕ} {sums : List ℤ} {counts : List ℕ} → m.crossfade_active ≡ false → i ≡ m.n → gain ≡ master_of r m
      → Summed (mono_value r) len i m.voices sums → Counted r len i m.voices counts → (j : ℕ) → at ≤ j → j < at + len
      → mean_at gain sums counts at j ≡ frame_at mono_step (λ m. (mono_frame_by r m).pcm) m at j
  unfolding mean_of
  mono-cell q e f s n j g h =
      let k = j - at in
      rw (f, s.cells k (omega arith), n.cells k (omega arith), e, mono-plain-at r k m q, averaged-sum (λ i v. answer_at (rule_at r i) k v) (voices_of m))

  -- undivided, by counts of 0
  pub undivided : (f : ℕ → ℕ → Voice → ℤ) (sample : Mixer → ℤ) {i gain : ℕ} {sums : List ℤ} → i ≡ m.n → gain ≡ master_of r m → Summed f len i m.voices sums
      → ((k : ℕ) → k < len → sample (after stereo_step k m) ≡ leveled r m (sum_at (f k) 0 (voices_of m)))
      → (j : ℕ) → at ≤ j → j < at + len → mean_at gain sums (replicate 256 0) at j ≡ frame_at stereo_step sample m at j
  unfolding mean_of
  undivided f sample e u s w j g h =
      let k = j - at in
      rw (u, same-cell {A = ℕ} 256 0 k, s.cells k (omega arith), e, w k (omega arith))

  pub left-cell : {i gain : ℕ} {sums : List ℤ} → i ≡ m.n → gain ≡ master_of r m → Slow m len → Summed (side_at left_of r) len i m.voices sums
      → (j : ℕ) → at ≤ j → j < at + len → mean_at gain sums (replicate 256 0) at j ≡ frame_at stereo_step (λ m. (stereo_frame_by r m).left) m at j
  left-cell e u h s = undivided (side_at left_of r) (λ m. (stereo_frame_by r m).left) e u s (λ k l. left_at r k m (slow-fewer m (suc k) len (omega arith) h))

  pub right-cell : {i gain : ℕ} {sums : List ℤ} → i ≡ m.n → gain ≡ master_of r m → Slow m len → Summed (side_at right_of r) len i m.voices sums
      → (j : ℕ) → at ≤ j → j < at + len → mean_at gain sums (replicate 256 0) at j ≡ frame_at stereo_step (λ m. (stereo_frame_by r m).right) m at j
  right-cell e u h s = undivided (side_at right_of r) (λ m. (stereo_frame_by r m).right) e u s (λ k l. right-at r k m (slow-fewer m (suc k) len (omega arith) h))

-- ---- a fade: voices 0 and 1

module _ (m : Mixer) (r : Marks) (len : ℕ) (d : Voice) {first second cells cells2 : List ℤ} {a b : Step Voice ℕ} (p : Pair m.n m.voices m.crossfade_active) (l : len ≤ 256)
    (h : Slow m len) (fa : VoiceBlock (rule_at r 0) (get_or m.voices 0 d) (min len 256) cells a first) (fb : VoiceBlock (rule_at r 1) (get_or m.voices 1 d) (min len 256) cells2 b second) where
  same-voice : (i : ℕ) → i < 2 → voice_at m i ≡ get_or m.voices i d
  same-voice i k = get_d_any m.voices i (silent_voice 0) d (omega (arith, p.2))

  pub faded-cell : {gain : ℕ} → gain ≡ master_of r m → (j : ℕ) → 0 ≤ j → j < len
      → faded_at gain m.crossfade_t_q8 m.crossfade_step_q8 first a.given second b.given j
      ≡ frame_at mono_step (λ m. (mono_frame_by r m).pcm) m 0 j
  unfolding crossed mono_frame_by
  faded-cell u j z k =
      let e : j - 0 ≡ j = omega arith in
      rw (
        u,
        e,
        mono-fade-at r j m p (slow-fewer m (suc j) len (omega arith) h),
        same-voice 0 (omega arith),
        same-voice 1 (omega arith),
        cell-answer (rule_at r 0) (get_or m.voices 0 d) j l fa.given k,
        cell-answer (rule_at r 1) (get_or m.voices 1 d) j l fb.given k,
      )

  -- the state, as the code stores it
  pub faded-state : (q s : Mixer) → q ≡ rested_others m len → s ≡ moved_on (with_voices q (set (set q.voices 0 a.voice) 1 b.voice)) len
      → s ≡ after mono_step len m
  unfolding fade_at
  faded-state q s e f =
      let n : min len 256 ≡ len = omega arith in
      let x : a.voice ≡ after voice_step len (voice_at m 0) = rw (same-voice 0 (omega arith), ← n) fa.voice.same in
      let y : b.voice ≡ after voice_step len (voice_at m 1) = rw (same-voice 1 (omega arith), ← n) fb.voice.same in
      let vs = map_first (after ticked_voice len) m.n m.voices in
      rw (f, e, others-stored vs (voice_at m 0) (voice_at m 1) a.voice b.voice, x, y) (sym (after-pair len m p h))
