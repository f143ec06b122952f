-- Buffers of a state with its line, by shape and by level. Assumes nothing.
use Prim.Native.Nat.{ℕ, ◌+◌, ◌*◌, ◌-◌, ◌≤◌}
use native.Mathlib.Omega.{arith}
use mathlib.Core.Path.{◌≡◌, refl, sym, ◌∙◌, ap}
use mathlib.Core.List.{List, ◌++◌, map}
use lib.IntN.{ℤ}
use lib.ListN.{length, take, drop, length-take, length-drop}
use Rattle.buffers.specs.Buffers.{FillsIn}
use Rattle.buffers.specs.Shapes.{present_frames, wide, frames_in, cells_in, shape_step, shape_raw, level_next, level_cell, FillsFrom, LevelsFrom}
use Rattle.buffers.specs.declared.Filled.{Filled}
use Rattle.buffers.specs.declared.Level.{Level}
use Rattle.buffers.specs.declared.Level.TheVariants.{Duty, U12, U16}
use Rattle.buffers.specs.declared.Shape.{Shape}
use Rattle.buffers.specs.declared.Shape.TheVariants.{Once, Doubled, Sides}
use Rattle.buffers.proofs.Settled.{shape-still, shape-settled, level-still, level-settled}
use Rattle.buffers.proofs.Sounds.{shape-wide, level-wide}
use Rattle.entering.specs.Entering.{entered_in}
use Rattle.entering.specs.Lined.{Valid, lined}
use Rattle.entering.specs.declared.Lined.{Lined}
use Rattle.laws.specs.Made.{Made}
use Rattle.marks.specs.Marks as K
use Rattle.marks.specs.Marks.{settled}
use Rattle.marks.specs.declared.Present.{Present}
use Rattle.spans.specs.Frames.{framed_lined, given_lined}
use Rattle.spans.proofs.Steady.{IsFrame, is-frame}
use Rattle.spans.proofs.Laws.{none-quiet, quiet-after, quiet-given}
use Rattle.steps.specs.Steps.{mono, duty, stereo}
use Rattle.filling.specs.Frames.{Fills, Levels}
use Rattle.filling.specs.Parts.{at_once}
use Rattle.filling.proofs.Parts.{Kind, Parting, recount, once-most, once-some, parts-start, parts-long, parts-fit, parts-turn, parts-end}

-- ---- by shape
shape-frame : (z : Shape) → IsFrame (λ p. settled (shape_step present_frames z p))
shape-frame Once = is-frame mono
shape-frame Doubled = is-frame mono
shape-frame Sides = is-frame stereo

shape-cancel : (z : Shape) (i j : ℕ) → i * wide z ≡ j * wide z → i ≡ j
shape-cancel Once i j e = omega (arith, e)
shape-cancel Doubled i j e = omega (arith, e)
shape-cancel Sides i j e = omega (arith, e)

pub shape-kind : {A : Type 0} (scale : ℤ → A) (z : Shape) → Kind (shape_step present_frames z) (λ p. map scale (shape_raw present_frames z p)) (wide z)
shape-kind scale z = record { still = shape-still scale z; frame = shape-frame z; wide = shape-wide scale z; cancel = shape-cancel z }

shape-cells : (z : Shape) (n : ℕ) → frames_in z n * wide z ≡ cells_in z n
shape-cells Once n = omega arith
shape-cells Doubled n = refl
shape-cells Sides n = refl

-- a part of whole frames
shape-whole : (z : Shape) (n k : ℕ) → k ≡ n * wide z → (frames_in z k ≡ n) × (cells_in z k ≡ n * wide z)
shape-whole Once n k e = (omega arith, omega arith)
shape-whole Doubled n k e = (omega arith, omega arith)
shape-whole Sides n k e = (omega arith, omega arith)

-- the part of a buffer that is lent
part_length : {A : Type 0} (at k end : ℕ) (out : List A) → end ≡ at + k → at + k ≤ length out → length (take (end - at) (drop at out)) ≡ k
part_length at k end out e h = simp (length-take, length-drop) (omega (arith, e, h))

pub shape-room : (z : Shape) (n : ℕ) → frames_in z n * wide z ≤ n
shape-room Once n = omega arith
shape-room Doubled n = omega arith
shape-room Sides n = omega arith

module _ {A : Type 0} (scale : ℤ → A) (z : Shape) (bytes : List ℕ) (s₀ : Lined) (out₀ : List A) where
  abbrev pub Shaped : Lined → ℕ → ℕ → List A → Type 0
  Shaped s at left out = Parting (shape-kind scale z) bytes s₀ out₀ (frames_in z (length out₀)) (shape-room z (length out₀)) s at left out

  pub shape-start : {left : ℕ} → Valid s₀ → left ≡ frames_in z (length out₀) → Shaped s₀ 0 left out₀
  shape-start v e = rw e (parts-start _ _ _ _ _ _ v)

  pub shape-long : {s : Lined} {at left : ℕ} {out : List A} → Shaped s at left out → length out ≡ length out₀
  shape-long h = parts-long _ _ _ _ _ _ h

  pub shape-fits : {s : Lined} {at left n : ℕ} {out : List A} (e : Lined) → Shaped s at left out → n ≡ at_once e left → at + n * wide z ≤ length out₀
  shape-fits {left = left} {n} e h o = parts-fit _ _ _ _ _ _ n h (rw o (once-most e left))

  pub shape-turn : {s e : Lined} {q : Present} {at left n end : ℕ} {out filled : List A} {r : Filled} → Shaped s at left out → 1 ≤ left
      → Made Valid (entered_in bytes s) e → n ≡ at_once e left → end ≡ at + n * wide z → FillsFrom scale z e.present (take (end - at) (drop at out)) r filled → q ≡ settled r.state
      → Shaped (lined q e.kept e.line) end (left - n) (take at out ++ (filled ++ drop (end - at) (drop at out)))
  shape-turn {e = e} {at = at} {n = n} {end} {out} h k m o b f q =
      let c : length (take (end - at) (drop at out)) ≡ n * wide z = part_length at (n * wide z) end out b (omega (arith, shape-fits e h o, shape-long h)) in
      let y = shape-whole z n (length (take (end - at) (drop at out))) c in
      parts-turn _ _ _ _ _ _ h k m o b c (recount y.0 y.1 f) q

pub shape-end : {A : Type 0} (scale : ℤ → A) (z : Shape) (bytes : List ℕ) (s₀ : Lined) (out₀ : List A) {s : Lined} {at left : ℕ} {out : List A} → Shaped scale z bytes s₀ out₀ s at left out
    → left ≡ 0 → Fills scale z bytes s₀ out₀ (record { lined = s; filled = at }) out
shape-end scale Once bytes s₀ out₀ h e = recount refl (shape-cells Once (length out₀)) (parts-end _ _ _ _ _ _ (rw e at h))
shape-end scale Doubled bytes s₀ out₀ h e = parts-end _ _ _ _ _ _ (rw e at h)
shape-end scale Sides bytes s₀ out₀ h e = parts-end _ _ _ _ _ _ (rw e at h)

-- ---- by level
level-frame : (l : Level) → IsFrame (λ p. settled (level_next present_frames l p))
level-frame Duty = is-frame duty
level-frame U12 = is-frame mono
level-frame U16 = is-frame mono

pub level-kind : (l : Level) → Kind (level_next present_frames l) (level_cell present_frames l) 1
level-kind l = record { still = level-still l; frame = level-frame l; wide = level-wide l; cancel = λ i j e. omega (arith, e) }

-- a frame for each cell
pub level-room : (n : ℕ) → n * 1 ≤ n
level-room n = omega arith

module _ (l : Level) (bytes : List ℕ) (s₀ : Lined) (out₀ : List ℕ) where
  abbrev pub Leveled : Lined → ℕ → ℕ → List ℕ → Type 0
  Leveled s at left out = Parting (level-kind l) bytes s₀ out₀ (length out₀) (level-room (length out₀)) s at left out

  pub level-start : Valid s₀ → Leveled s₀ 0 (length out₀) out₀
  level-start v = parts-start _ _ _ _ _ _ v

  pub level-long : {s : Lined} {at left : ℕ} {out : List ℕ} → Leveled s at left out → length out ≡ length out₀
  level-long h = parts-long _ _ _ _ _ _ h

  pub level-fits : {s : Lined} {at left n : ℕ} {out : List ℕ} (e : Lined) → Leveled s at left out → n ≡ at_once e left → at + n ≤ length out₀
  level-fits {left = left} {n} e h o = omega (arith, parts-fit _ _ _ _ _ _ n h (rw o (once-most e left)))

  pub level-turn : {s e : Lined} {q : Present} {at left n : ℕ} {out filled : List ℕ} {r : Filled} → Leveled s at left out → 1 ≤ left
      → Made Valid (entered_in bytes s) e → n ≡ at_once e left → LevelsFrom l e.present (take (at + n - at) (drop at out)) r filled → q ≡ settled r.state
      → Leveled (lined q e.kept e.line) (at + n) (left - n) (take at out ++ (filled ++ drop (at + n - at) (drop at out)))
  level-turn {e = e} {at = at} {n = n} {out} h k m o f q =
      let c : length (take (at + n - at) (drop at out)) ≡ n = part_length at n (at + n) out refl (omega (arith, level-fits e h o, level-long h)) in
      let w : n ≡ n * 1 = omega arith in
      parts-turn _ _ _ _ _ _ h k m o (omega arith) (c ∙ w) (recount c (c ∙ w) f) q

pub level-end : (l : Level) (bytes : List ℕ) (s₀ : Lined) (out₀ : List ℕ) {s : Lined} {at left : ℕ} {out : List ℕ} → Leveled l bytes s₀ out₀ s at left out → left ≡ 0
    → Levels l bytes s₀ out₀ (record { lined = s; filled = at }) out
level-end Duty bytes s₀ out₀ h e = recount refl (omega arith) (parts-end _ _ _ _ _ _ (rw e at h))
level-end U12 bytes s₀ out₀ h e = recount refl (omega arith) (parts-end _ _ _ _ _ _ (rw e at h))
level-end U16 bytes s₀ out₀ h e = recount refl (omega arith) (parts-end _ _ _ _ _ _ (rw e at h))

-- ---- "With none waiting, a frame is as before."
module _ {A : Type 0} (step : Present → Present) (gives : Present → List A) (bytes : List ℕ) (s : Lined) (h : Valid s) (none : s.line.count ≡ 0) where
  fills-before : {n w : ℕ} {cells filled : List A} {p : Present} {count : ℕ} → FillsIn K.Valid step gives n w s.present cells (record { state = p; filled = count }) filled
      → FillsIn Valid (framed_lined step bytes) (given_lined gives bytes) n w s cells (record { state = lined p s.kept s.line; filled = count }) filled
  fills-before {n} {w} {cells} f =
      let q = none-quiet step bytes n s h.line none in
      record {
        state =
            record {
              same = ap (λ (p : Present). lined p s.kept s.line) f.state.same ∙ sym (quiet-after step bytes n s q);
              valid = record { present = f.state.valid; line = h.line };
            };
        count = f.count;
        content = f.content ∙ ap (λ (l : List A). l ++ drop w cells) (sym (quiet-given step bytes gives n s q));
      }

-- what `buffers` and settling make of the state alone, the call makes of it, and leaves the line and the kept refusal
pub as_before : {A : Type 0} (scale : ℤ → A) (z : Shape) (bytes : List ℕ) (s : Lined) {cells filled : List A} {r : Filled} → Valid s → s.line.count ≡ 0 → FillsFrom scale z s.present cells r filled
    → Fills scale z bytes s cells (record { lined = lined (settled r.state) s.kept s.line; filled = r.filled }) filled
as_before scale Once bytes s h e f = fills-before _ _ bytes s h e (shape-settled scale Once s.present h.present refl f)
as_before scale Doubled bytes s h e f = fills-before _ _ bytes s h e (shape-settled scale Doubled s.present h.present refl f)
as_before scale Sides bytes s h e f = fills-before _ _ bytes s h e (shape-settled scale Sides s.present h.present refl f)

pub as-before-level : (l : Level) (bytes : List ℕ) (s : Lined) {cells filled : List ℕ} {r : Filled} → Valid s → s.line.count ≡ 0 → LevelsFrom l s.present cells r filled
    → Levels l bytes s cells (record { lined = lined (settled r.state) s.kept s.line; filled = r.filled }) filled
as-before-level Duty bytes s h e f = fills-before _ _ bytes s h e (level-settled Duty s.present h.present refl f)
as-before-level U12 bytes s h e f = fills-before _ _ bytes s h e (level-settled U12 s.present h.present refl f)
as-before-level U16 bytes s h e f = fills-before _ _ bytes s h e (level-settled U16 s.present h.present refl f)

pub ruleset shape_parts = (shape-start, once-most, once-some)

pub ruleset level_parts = (level-start, once-most, once-some)
