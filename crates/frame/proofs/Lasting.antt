-- How long a fade takes, in any box whose steps keep the laws. Assumes nothing.
use Prim.Native.Nat.{ℕ, suc, ◌+◌, ◌-◌, ◌/◌, ◌≤◌, ◌<◌, max}
use native.Mathlib.Nat.{add-div_right, div-eq-sub-div, div-le_of_le-mul, div-lt_iff_lt-mul, le-div_iff_mul-le}
use native.Mathlib.Omega.{arith}
use mathlib.Core.Path.{◌≡◌, refl, sym, ◌∙◌}
use mathlib.Core.Bool.{Bool, true, false, cond, ◌&&◌}
use mathlib.Core.List.{List, [], ◌∷◌}
use borrow.Author.Tests.{eqb-true, eqb-false}
use lib.Dec.{eqb}
use Rattle.config.specs.Config.{rounded_up}
use Rattle.laws.specs.Lists.{only}
use Rattle.laws.proofs.Bools.{never}
use Rattle.mixer.specs.Mixers.{Valid}
use Rattle.mixer.specs.declared.Mixer.{Mixer}
use Rattle.frame.specs.Fades.{fade_ended_with, fade_ended_by, fade_at, next_t, advanced_by, advanced}
use Rattle.frame.specs.Lasting.{frames_left, SameFade, Box, Step, frame, call, Lawful, after_all, frames_in, unbroken, Lasts}

-- ---- a ÷ s rounded up
module _ (a s : ℕ) (p : 1 ≤ s) where
  pub up-some : 1 ≤ a → 1 ≤ rounded_up a s
  up-some h = (le-div_iff_mul-le {k = s} {x = 1} {y = a + (s - 1)} p).1 (omega arith)

  pub up-most : a ≤ 255 → rounded_up a s ≤ 255
  up-most h = div-le_of_le-mul s (omega arith)

  -- no more than s is at most once s
  pub up-once : a ≤ s → rounded_up a s ≤ 1
  up-once h = let l : rounded_up a s < 2 = (div-lt_iff_lt-mul {k = s} {x = a + (s - 1)} {y = 2} p).1 (omega arith) in omega arith

  -- and more is once more than without s
  pub up_more : s < a → rounded_up a s ≡ suc (rounded_up (a - s) s)
  up_more h =
      let e : a + (s - 1) - s ≡ a - s + (s - 1) = omega arith in
      div-eq-sub-div {m = s} {n = a + (s - 1)} p (omega arith) ∙ rw e (omega arith)

-- ---- the frame that comes next, by what is left

-- a fade that runs has a step
abbrev pub Moves : Mixer → Type 0
Moves m = m.crossfade_active ≡ true → 1 ≤ m.crossfade_step_q8

pub valid-moves : {m : Mixer} → Valid m → Moves m
valid-moves h a = (h.fade a).1

data Next (m : Mixer) : Type 0 where
  none : m.crossfade_active ≡ false → frames_left m ≡ 0 → ((on : Bool) → advanced_by on m ≡ m) → Next m
  moves : m.crossfade_active ≡ true → frames_left m ≡ suc (frames_left (fade_at m (next_t m))) → 1 ≤ frames_left (fade_at m (next_t m))
      → ((on : Bool) → advanced_by on m ≡ fade_at m (next_t m)) → Next m
  ends : m.crossfade_active ≡ true → frames_left m ≡ 1 → frames_left (fade_ended_by false m) ≡ 0 → ((on : Bool) → advanced_by on m ≡ fade_ended_by on m)
      → Next m

next : (m : Mixer) → Moves m → Next m
unfolding advanced_by frames_left fade_at fade_ended_with
next m k = by-active m.crossfade_active refl
  where
    by-active : (a : Bool) → m.crossfade_active ≡ a → Next m
    by-active false a = none a (rw a) (λ on. rw a)
    by-active true a = by_end (eqb (next_t m) 255) refl
      where
        by_end : (e : Bool) → eqb (next_t m) 255 ≡ e → Next m
        by_end true e =
            let s = k a in
            let n = eqb-true (next_t m) 255 e in
            let u = up-once (255 - m.crossfade_t_q8) m.crossfade_step_q8 s (omega arith) in
            ends a (rw a (omega arith)) refl (λ on. rw (a, e))
        by_end false e =
            let s = k a in
            let n = eqb-false (next_t m) 255 e in
            let z : 255 - m.crossfade_t_q8 - m.crossfade_step_q8 ≡ 255 - next_t m = omega arith in
            let u = rw z at (up_more (255 - m.crossfade_t_q8) m.crossfade_step_q8 s (omega arith)) in
            let v = up-some (255 - next_t m) m.crossfade_step_q8 s (omega arith) in
            moves a (rw a (omega arith)) (rw a (omega arith)) (λ on. rw (a, e))

-- the frame takes one off what is left
advance-left : (m : Mixer) → Moves m → frames_left (advanced m) ≡ frames_left m - 1
advance-left m k = by_next (next m k)
  where
    by_next : Next m → frames_left (advanced m) ≡ frames_left m - 1
    by_next (none a l e) = rw (e false) (omega arith)
    by_next (moves a l g e) = rw (e false) (omega arith)
    by_next (ends a l z e) = rw (e false) (omega arith)

advance-moves : (m : Mixer) → Moves m → Moves (advanced m)
unfolding fade_at fade_ended_with
advance-moves m k = by_next (next m k)
  where
    by_next : Next m → Moves (advanced m)
    by_next (none a l e) = rw (e false) k
    by_next (moves a l g e) = rw (e false) k
    by_next (ends a l z e) = rw (e false) (λ b. never b)

-- what is left depends on the fade's fields alone
pub same_left : {a b : Mixer} → SameFade a b → frames_left a ≡ frames_left b
unfolding frames_left
same_left f = rw (f.active, f.t, f.step)

same-moves : {a b : Mixer} → SameFade a b → Moves b → Moves a
same-moves f k h = rw f.step (k (sym f.active ∙ h))

-- no fade has more than 255 frames left
pub left-most : (m : Mixer) → Moves m → frames_left m ≤ 255
unfolding frames_left
left-most m k = by-active m.crossfade_active refl
  where
    by-active : (a : Bool) → m.crossfade_active ≡ a → cond a (max 1 (rounded_up (255 - m.crossfade_t_q8) m.crossfade_step_q8)) 0 ≤ 255
    by-active false a = omega arith
    by-active true a = let u = up-most (255 - m.crossfade_t_q8) m.crossfade_step_q8 (k a) (omega arith) in omega arith

-- what is left, as the code finds it
pub left-none : (m : Mixer) → m.crossfade_active ≡ false → frames_left m ≡ 0
unfolding frames_left
left-none m a = rw a

module _ (m : Mixer) (k : Moves m) (a : m.crossfade_active ≡ true) where
  pub left_one : m.crossfade_t_q8 ≡ 255 → frames_left m ≡ 1
  unfolding frames_left
  left_one h = let u = up-once (255 - m.crossfade_t_q8) m.crossfade_step_q8 (k a) (omega arith) in rw a (omega arith)

  pub left-some : m.crossfade_t_q8 ≤ 254 → frames_left m ≡ (254 - m.crossfade_t_q8) / m.crossfade_step_q8 + 1
  unfolding frames_left
  left-some h =
      let s = k a in
      let e : 255 - m.crossfade_t_q8 + (m.crossfade_step_q8 - 1) ≡ 254 - m.crossfade_t_q8 + m.crossfade_step_q8 = omega arith in
      rw (a, e, add-div_right (254 - m.crossfade_t_q8) s) (omega arith)

-- ---- steps of a box
module _ {State Frame Call : Type 0} (b : Box State Frame Call) (w : Lawful b) where
  -- what is left after steps, of a fade that still has its step
  record Left (n : ℕ) (e : State) : Type 0 where
    left : frames_left (b.mixer e) ≡ n
    moving : Moves (b.mixer e)

  call-goes : (g : Bool) {u : Bool} → g && u ≡ true → (g ≡ true) × (u ≡ true)
  call-goes true h = (refl, h)
  call-goes false h = never h

  lasts-left : (ss : List (Step Frame Call)) (e : State) → Moves (b.mixer e) → unbroken b ss e ≡ true → Left (frames_left (b.mixer e) - frames_in ss) (after_all b ss e)
  unfolding after_all unbroken only
  lasts-left [] e k u = record { left = omega arith; moving = k }
  lasts-left (frame f ∷ ss) e k u =
      let g = w.advances f e in
      let r = lasts-left ss (b.framed f e) (same-moves g (advance-moves (b.mixer e) k)) u in
      record { left = omega (arith, r.left, same_left g, advance-left (b.mixer e) k); moving = r.moving }
  lasts-left (call c ∷ ss) e k u =
      let h = call-goes (b.goes_on c e) u in
      let g = w.leaves c e h.0 in
      let r = lasts-left ss (b.called c e) (same-moves g k) h.1 in
      record { left = omega (arith, r.left, same_left g); moving = r.moving }

  -- the count of a fade is what is left of it
  pub lasts : (count : ℕ) (e : State) (ss : List (Step Frame Call)) → Moves (b.mixer e) → frames_left (b.mixer e) ≡ count → unbroken b ss e ≡ true → Lasts b count e ss
  lasts count e ss k c u = by_next (lasts-left ss e k u) (next (b.mixer (after_all b ss e)) (lasts-left ss e k u).moving)
    where
      by_next : Left (frames_left (b.mixer e) - frames_in ss) (after_all b ss e) → Next (b.mixer (after_all b ss e)) → Lasts b count e ss
      by_next r (none a l g) =
          record {
            running = λ h. absurd (omega (arith, r.left));
            over = λ h. a;
            left = r.left ∙ rw c;
            moves = λ on h. absurd (omega (arith, r.left));
            ends = λ on h. absurd (omega (arith, r.left));
            rests = λ on h. g on;
          }
      by_next r (moves a l o g) =
          record {
            running = λ h. a;
            over = λ h. absurd (omega (arith, r.left));
            left = r.left ∙ rw c;
            moves = λ on h. g on;
            ends = λ on h. absurd (omega (arith, r.left));
            rests = λ on h. absurd (omega (arith, r.left));
          }
      by_next r (ends a l z g) =
          record {
            running = λ h. a;
            over = λ h. absurd (omega (arith, r.left));
            left = r.left ∙ rw c;
            moves = λ on h. absurd (omega (arith, r.left));
            ends = λ on h. g on;
            rests = λ on h. absurd (omega (arith, r.left));
          }
