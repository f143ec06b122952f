-- Parts of a block one after another, and the voices beside a fade. Assumes nothing.
use Prim.Native.Nat.{ℕ, zero, suc, ◌+◌, ◌-◌, ◌*◌, ◌/◌, ◌≤◌, ◌<◌, min}
use native.Mathlib.Nat.{lt-mul-div-succ, mul-div-le, mul_comm, mul-suc, mul-le-mul_right}
use native.Mathlib.Numerals.{add-one}
use native.Mathlib.Omega.{arith}
use mathlib.Core.Path.{◌≡◌, refl, sym, ap, ◌∙◌}
use mathlib.Core.Bool.{Bool, true, false}
use mathlib.Core.List.{List, [], ◌∷◌, ◌++◌}
use lib.IntN.{ℤ, pos}
use lib.ListN.{length, get_or, set, drop}
use lib.Seq.{set_comm, set-set, get_or-set_other}
use Rattle.envelope.specs.declared.Adsr.{Adsr}
use Rattle.frame.specs.Fades.{taken_over, envelope_after, fade_ended_with, fade_ended_by, fade_at}
use Rattle.frame.specs.Frames.{old_marks}
use Rattle.frame.specs.Presents.{stereo_next, pcm_of, left_side, right_side}
use Rattle.frame.specs.Runs.{mono_step, stereo_step}
use Rattle.frame.proofs.Laws.{valid-mono, valid-stereo}
use Rattle.laws.specs.Lists.{map_first}
use Rattle.laws.specs.Runs.{after, given}
use Rattle.laws.proofs.Lists.{map_first-step, get_d_any}
use Rattle.laws.proofs.Runs.{after-parts}
use Rattle.marks.specs.declared.Marks.{Marks}
use Rattle.marks.specs.declared.Present.{Present}
use Rattle.mixer.specs.Mixers.{Valid}
use Rattle.mixer.specs.declared.Mixer.{Mixer}
use Rattle.voice.specs.Voices.{silent_voice, stopped_voice}
use Rattle.voice.specs.declared.Voice.{Voice}
use Rattle.block.specs.Blocks.{next_of, left_of, right_cells, Block}
use Rattle.block.specs.Parts.{step_of, left_by, Slow, FadeFrames, MonoPart, RightPart, Part, RightStretch, Stretch, frame_at, pace}
use Rattle.block.specs.Cells.{Written}
use Rattle.block.proofs.Boxes.{after-steady, ended_state, Joins, joins}
use Rattle.block.proofs.Cells.{written_both, written-whole, written_as}
use Rattle.block.proofs.Frames.{given-at, given-length, moved, run_all, run_pair, after-pair, after-stereo, Ends, after_same, samples-same}

valid-run : (step : Mixer → Mixer) → ((m : Mixer) → Valid m → Valid (step m)) → (k : ℕ) (m : Mixer) → Valid m → Valid (after step k m)
unfolding after
valid-run step keeps zero m h = h
valid-run step keeps (suc k) m h = valid-run step keeps k (step m) (keeps m h)

pub valid-monos : (k : ℕ) (m : Mixer) → Valid m → Valid (after mono_step k m)
valid-monos = valid-run mono_step (λ m h. valid-mono old_marks {m = m} h)

pub valid-stereos : (k : ℕ) (m : Mixer) → Valid m → Valid (after stereo_step k m)
valid-stereos = valid-run stereo_step (λ m h. valid-stereo old_marks {m = m} h)

-- ---- the element that a loop over the first reads
pub read_at : {A : Type 0} (f : A → A) (i : ℕ) (l : List A) (d : A) → get_or (map_first f i l) i d ≡ get_or l i d
read_at f zero l d = refl
read_at f (suc i) [] d = refl
read_at f (suc i) (x ∷ l) d = read_at f i l d

-- ---- a loop over all but 0 and 1
module _ {A : Type 0} (f : A → A) (x y : A) where
  abbrev pub others : ℕ → List A → List A
  others i l = set (set (map_first f i l) 0 x) 1 y

  others-read : (i : ℕ) (l : List A) (d : A) → 2 ≤ i → get_or (others i l) i d ≡ get_or (map_first f i l) i d
  others-read i l d h =
      get_or-set_other (set (map_first f i l) 0 x) 1 i y d (λ e. omega arith) ∙ get_or-set_other (map_first f i l) 0 i x d (λ e. omega arith)

  pub others-at : (i : ℕ) (l : List A) (d : A) → 2 ≤ i → get_or (others i l) i d ≡ get_or l i d
  others-at i l d h = others-read i l d h ∙ read_at f i l d

  pub others-next : (i : ℕ) (l : List A) (d w : A) → 2 ≤ i → w ≡ f (get_or (others i l) i d) → set (others i l) i w ≡ others (i + 1) l
  others-next i l d w h e =
      let a : w ≡ f (get_or (map_first f i l) i d) = e ∙ ap f (others-read i l d h) in
      rw (
        set_comm (set (map_first f i l) 0 x) 1 i y w (λ z. omega arith),
        set_comm (map_first f i l) 0 i x w (λ z. omega arith),
        a,
        map_first-step f d l i,
      )

pub others-none : {A : Type 0} (f : A → A) (l : List A) (d : A) → 2 ≤ length l → l ≡ others f (get_or l 0 d) (get_or l 1 d) 2 l
others-none f [] d h = absurd (omega arith)
others-none f (x ∷ []) d h = absurd (omega arith)
others-none f (x ∷ y ∷ l) d h = refl

-- voices 0 and 1 stored over it
pub others-stored : {A : Type 0} (l : List A) (a b x y : A) → set (set (set (set l 0 a) 1 b) 0 x) 1 y ≡ set (set l 0 x) 1 y
others-stored l a b x y =
    rw (set_comm (set l 0 a) 1 0 b x (λ z. omega arith), set-set l 0 a x, set-set (set l 0 x) 1 b y)

-- ---- the end of a fade, as the code stores it
pub ended_is : (on : Bool) (m : Mixer) (d first second : Voice) (adsr : Adsr) → 2 ≤ length m.voices
    → first ≡ taken_over adsr (get_or m.voices 0 d) (get_or m.voices 1 d) → adsr ≡ envelope_after on (get_or m.voices 0 d) (get_or m.voices 1 d)
    → second ≡ stopped_voice (get_or m.voices 1 d)
    → record {
      n = m.n;
      voices = set (set m.voices 0 first) 1 second;
      bank = m.bank;
      config = m.config;
      mapper = m.mapper;
      crossfade_t_q8 = 0;
      crossfade_step_q8 = m.crossfade_step_q8;
      crossfade_active = false;
      stealing_policy = m.stealing_policy;
    }
    ≡ fade_ended_by on m
unfolding fade_ended_with
ended_is on m d first second adsr h e g f =
    rw (e, g, f, get_d_any m.voices 0 d (silent_voice 0) (omega arith), get_d_any m.voices 1 d (silent_voice 0) (omega arith))

-- ---- how far a fade goes
pub fade-frames : {active : Bool} (t step len most r : ℕ) → active ≡ true → t ≤ 254 → 1 ≤ step → most ≡ (254 - t) / step → r ≡ min most len → FadeFrames active t step len r
fade-frames t step len most r q h s e f =
    let up : 254 - t < step * (most + 1) = rw e (lt-mul-div-succ (254 - t) {b = step} (omega arith)) in
    let low : step * most ≤ 254 - t = rw e (mul-div-le (254 - t) step) in
    let a = mul_comm step most in
    let b = mul-le-mul_right {m = r} {n = most} step (omega arith) in
    let c : step * (most + 1) ≡ step * most + step = rw (add-one, mul-suc) in
    record { most = omega arith; goes = λ x z. omega arith; ends = λ z. (q, (let g : r ≡ most = omega arith in rw g (omega arith))) }

-- ---- a block in one part or two, of frames of either kind
module _ {State : Type 0} (step : State → State) where
  -- one part from cell 0 on
  cells_whole : (sample : State → ℤ) (m : State) (n : ℕ) {was is : List ℤ} → n ≤ 256 → length was ≡ 256
      → Written (pos 0) (frame_at step sample m 0) 0 (0 + n) was is → is ≡ given step (λ m. sample m ∷ []) n m ++ drop n was
  cells_whole sample m n l e c =
      let z : 0 + n ≡ n = omega arith in
      written-whole (given step (λ m. sample m ∷ []) n m) (rw z at c) (omega arith) (given-length step sample n m)
      (λ j h. given-at step sample n j m (pos 0) h ∙ ap (λ (k : ℕ). sample (after step k m)) (omega arith))

  -- a second part, from a state whose first step is the one that follows the first part
  module _ (m b : State) (f n : ℕ) (l : f < n) (e : step (after step f m) ≡ step b) where
    cells-both : (sample : State → ℤ) {was mid is : List ℤ} → sample (after step f m) ≡ sample b → Written (pos 0) (frame_at step sample m 0) 0 (0 + f) was mid
        → Written (pos 0) (frame_at step sample b f) f (f + (n - f)) mid is → Written (pos 0) (frame_at step sample m 0) 0 (0 + n) was is
    cells-both sample s v w =
        let y : 0 + f ≡ f = omega arith in
        let z : f + (n - f) ≡ 0 + n = omega arith in
        written_both (rw y at v)
        (rw z at
        (written_as {g = frame_at step sample m 0} (λ j h k.
        (let p : j - 0 ≡ f + (j - f) = omega arith in
        sym (samples-same step (after step f m) b e sample s (j - f)) ∙ rw (p, after-parts step f (j - f) m))) w))
        (omega arith) (omega arith)

    state-both : after step n m ≡ after step (n - f) b
    state-both =
        let z : n ≡ f + (n - f) = omega arith in
        ap (λ (k : ℕ). after step k m) z ∙ after-parts step f (n - f) m ∙ after_same step (after step f m) b e (n - f) (omega arith)

-- mono frames leave the right side alone
pub mono-part : {q : Marks} {m r : Mixer} {at len : ℕ} {was is : List ℤ} (other : List ℤ) → MonoPart q m at len was r is → Part false q m at len was other r is other
mono-part other p = record { mixer = p.mixer; left = p.cells; right = refl }

-- frames in which no fade ends are the mixer's, beside marks that stay
module _ (k : Marks) (m : Mixer) (len : ℕ) (slow : Slow m len) where
  slow-fewer : (i : ℕ) → i ≤ len → Slow m i
  slow-fewer i l a z = omega (arith, slow a (omega arith), mul-le-mul_right {m = i} {n = len} m.crossfade_step_q8 l)

  steady-cells : (sides : Bool) (sample : Present → ℤ) {at : ℕ} {was is : List ℤ}
      → Written (pos 0) (frame_at (step_of sides) (λ m. sample (record { mixer = m; marks = k })) m at) at (at + len) was is
      → Written (pos 0) (frame_at (next_of sides) sample (record { mixer = m; marks = k }) at) at (at + len) was is
  steady-cells sides sample {at} w =
      written_as (λ j h l. ap sample (sym (after-steady sides k (j - at) m (slow-fewer (j - at) (omega arith))))) w

  steady-right : (sides : Bool) (at : ℕ) (was is : List ℤ) → RightPart sides k m at len was is → RightStretch sides (record { mixer = m; marks = k }) at len was is
  steady-right true at was is p = steady-cells true right_side p
  steady-right false at was is p = p

  steady-left : (sides : Bool) {at : ℕ} {was is : List ℤ} → Written (pos 0) (frame_at (step_of sides) (left_by sides k) m at) at (at + len) was is
      → Written (pos 0) (frame_at (next_of sides) (left_of sides) (record { mixer = m; marks = k }) at) at (at + len) was is
  steady-left true w = steady-cells true left_side w
  steady-left false w = steady-cells false pcm_of w

  pub part-stretch : {sides : Bool} {at : ℕ} {lw rr li ri : List ℤ} {out : Mixer} → Part sides k m at len lw rr out li ri
      → Stretch sides (record { mixer = m; marks = k }) at len lw rr (record { mixer = out; marks = k }) li ri
  part-stretch {sides} {at} {rr = rr} {ri = ri} p =
      record {
        state = record { same = rw p.mixer.same (sym (after-steady sides k len m slow)); valid = p.mixer.valid };
        left = steady-left sides p.left;
        right = steady-right sides at rr ri p.right;
      }

-- the first part of a block in which a fade ends
module _ (m : Mixer) (f n : ℕ) (v : Valid m) (h : FadeFrames m.crossfade_active m.crossfade_t_q8 m.crossfade_step_q8 n f) where
  pub slow-part : Slow m f
  slow-part x z = h.goes x z

  -- no fade ends in the block
  pub slow-all : n ≤ f → Slow m n
  slow-all l = let e : f ≡ n = omega (arith, h.most) in rw e at slow-part

  part-ends : (vs : List Voice) → f < n → Ends (moved m vs (m.crossfade_t_q8 + f * pace m))
  unfolding fade_at
  part-ends vs l = record { active = (h.ends l).0; last = rw (h.ends l).0 (h.ends l).1 }

  -- the next frame ends it
  pub next-ends : (sides : Bool) → f < n → Ends (after (step_of sides) f m)
  next-ends true l = rw (after-stereo f m slow-part) (part-ends (run_all f m.n m.voices) l)
  next-ends false l =
      let q = (h.ends l).0 in
      let k = (v.fade q).0 in
      rw (after-pair f m (q, k, omega (arith, v.full)) slow-part) (part-ends (run_pair f m.n m.voices) l)

right-both : (p b : Present) (f n : ℕ) (sides : Bool) (was mid is : List ℤ) → f < n → Joins sides (after (next_of sides) f p) b → RightStretch sides p 0 f was mid → RightStretch sides b f (n - f) mid is
    → RightStretch sides p 0 n was is
right-both p b f n true was mid is l j x y = cells-both stereo_next p b f n l j.step right_side (j.right refl) x y
right-both p b f n false was mid is l j x y = y ∙ x

-- both parts
pub stretch-two : {sides : Bool} {p a b r : Present} {f n : ℕ} {lw rr lm rm li ri : List ℤ} → Ends a.mixer → b ≡ ended_state a → f < n → Stretch sides p 0 f lw rr a lm rm
    → Stretch sides b f (n - f) lm rm r li ri → Stretch sides p 0 n lw rr r li ri
stretch-two {sides} {p} {a} {b} {r} {f} {n} {lw} {rr} {lm} {rm} {li} {ri} h d l x y =
    let j : Joins sides (after (next_of sides) f p) b = rw (d, ← x.state.same) (joins sides a h) in
    record {
      state = record { same = y.state.same ∙ sym (state-both (next_of sides) p b f n l j.step); valid = y.state.valid };
      left = cells-both (next_of sides) p b f n l j.step (left_of sides) j.left x.left y.left;
      right = right-both p b f n sides rr rm ri l j x.right y.right;
    }

right-whole : (sides : Bool) (p : Present) (n : ℕ) (was is : List ℤ) → n ≤ 256 → length was ≡ 256 → RightStretch sides p 0 n was is → is ≡ right_cells sides n p was
right-whole true p n was is l e c = cells_whole stereo_next right_side p n l e c
right-whole false p n was is l e c = c

-- a part from cell 0 on is the block
pub stretch-whole : {sides : Bool} {p r : Present} {n k : ℕ} {lw rr li ri : List ℤ} → n ≡ k → n ≤ 256 → length lw ≡ 256 → length rr ≡ 256 → Stretch sides p 0 n lw rr r li ri
    → Block sides p k lw rr r li ri
stretch-whole {sides} {p} {r} {n} {k} {lw} {rr} {li} {ri} e l f g c =
    rw (← e) (record { state = c.state; left = cells_whole (next_of sides) (left_of sides) p n l f c.left; right = right-whole sides p n rr ri l g c.right })
