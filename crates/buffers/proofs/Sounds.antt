-- What blocks of this box's frames give, by shape and by level. Assumes nothing.
use Prim.Native.Nat.{ℕ, ◌+◌, ◌*◌, ◌-◌, ◌≤◌, ◌<◌, min}
use native.Mathlib.Omega.{arith}
use mathlib.Core.Path.{◌≡◌, refl, ◌∙◌, ap}
use mathlib.Core.Bool.{Bool, false}
use mathlib.Core.List.{List, [], ◌∷◌, ◌++◌, map}
use lib.IntN.{ℤ}
use lib.ListN.{length, take, drop}
use Rattle.laws.specs.Made.{Made}
use Rattle.laws.specs.Runs.{after, given}
use Rattle.block.specs.Blocks.{ValidInside, Block}
use Rattle.frame.specs.Presents.{mono_next, stereo_next, pcm_of, left_side, right_side}
use Rattle.frame.proofs.Laws.{valid-mapper}
use Rattle.marks.specs.declared.Present.{Present}
use Rattle.output.specs.Duty.{ValidMapper}
use Rattle.output.specs.declared.PwmMapper.{PwmMapper}
use Rattle.buffers.specs.Buffers.{to_i8}
use Rattle.buffers.specs.Shapes.{present_frames, wide, frames_in, cells_in, sides_of, shape_step, shape_raw, level_next, level_cell, FillsFrom, LevelsFrom}
use Rattle.buffers.specs.declared.Level.{Level}
use Rattle.buffers.specs.declared.Level.TheVariants.{Duty, U12, U16}
use Rattle.buffers.specs.declared.Shape.{Shape}
use Rattle.buffers.specs.declared.Shape.TheVariants.{Once, Doubled, Sides}
use Rattle.buffers.proofs.Putting.{span_small, span-some}
use Rattle.buffers.proofs.Duties.{mapper_at, level-period, state-is, cells_are}
use Rattle.buffers.proofs.Blocks.{Filling, filling-start, filling-long, filling-turn, filling-end, map-given}
use Rattle.buffers.proofs.Rows.{pairs-given, block-cells, made-few}
use Rattle.buffers.specs.Blocks.{Span, Laid, laid, mapper_over, levels_over}

-- the samples of a block, side by side, are those of its frames
block-laid : (z : Shape) (n : ℕ) {m r : Present} {lw rr left right : List ℤ} → n ≤ 256 → Block (sides_of z) m (min n 256) lw rr r left right
    → laid z (take n left) (take n right) ≡ given (shape_step present_frames z) (shape_raw present_frames z) n m
block-laid Once n {m} h b = rw (block-cells mono_next pcm_of n m _ h b.left) (map-given to_i8 mono_next (λ m. pcm_of m ∷ []) n m)
block-laid Doubled n {m} h b = rw (block-cells mono_next pcm_of n m _ h b.left) (pairs-given mono_next pcm_of pcm_of n m)
block-laid Sides n {m} h b =
    rw (block-cells stereo_next left_side n m _ h b.left, block-cells stereo_next right_side n m _ h b.right) (pairs-given stereo_next left_side right_side n m)

abbrev step_by : Shape → Present → Present
step_by z = shape_step present_frames z

abbrev raw_by : Shape → Present → List ℤ
raw_by z = shape_raw present_frames z

-- a block's frames are those of the shape
block-state : (z : Shape) (n : ℕ) {m r : Present} {lw rr left right : List ℤ} → n ≤ 256 → Block (sides_of z) m (min n 256) lw rr r left right → Made ValidInside (after (step_by z) n m) r
block-state Once n {m} h b = made-few mono_next m n h b.state
block-state Doubled n {m} h b = made-few mono_next m n h b.state
block-state Sides n {m} h b = made-few stereo_next m n h b.state

-- ---- blocks by shape
shape-counts : (z : Shape) (n at len : ℕ) → at ≡ n * wide z → at ≤ len → len - at < wide z → (n ≡ frames_in z len) × (at ≡ cells_in z len)
shape-counts Once n at len e h k = (omega arith, omega arith)
shape-counts Doubled n at len e h k = (omega arith, omega arith)
shape-counts Sides n at len e h k = (omega arith, omega arith)

pub shape-wide : {A : Type 0} (f : ℤ → A) (z : Shape) (m : Present) → length (map f (raw_by z m)) ≡ wide z
shape-wide f Once m = refl
shape-wide f Doubled m = refl
shape-wide f Sides m = refl

module _ {A : Type 0} (f : ℤ → A) (shape : Shape) (m : Present) (out₀ : List A) where
  -- blocks so far, and how many frames the next has
  pub record Shaping (s : Present) (at n : ℕ) (out : List A) : Type 0 where
    pub filling : Filling ValidInside (step_by shape) (λ m. map f (raw_by shape m)) (wide shape) m out₀ s at out
    pub span : Span shape (length out₀ - at) n

  pub shape-start : {n : ℕ} → ValidInside m → Span shape (length out₀) n → Shaping m 0 n out₀
  shape-start v h =
      let z : length out₀ - 0 ≡ length out₀ = omega arith in
      record { filling = filling-start _ _ _ _ _ _ v; span = rw z h }

  pub shape-long : {s : Present} {at n : ℕ} {out : List A} → Shaping s at n out → length out ≡ length out₀
  shape-long h = filling-long _ _ _ _ _ _ h.filling

  -- the cells of the next block
  pub shape-fits : {s : Present} {at n k : ℕ} {out : List A} {left right samples : List ℤ} → Shaping s at n out → Laid shape n k left right samples
      → (at + k ≤ length out₀) × (k ≤ length samples) × (length out ≡ length out₀)
  shape-fits {n = n} {k} h l = (omega (arith, h.span.fits, h.filling.fits, l.count), omega (arith, l.room, span_small shape n k l.count h.span.few), shape-long h)

  -- it leaves less room than there was
  pub shape-less : {s : Present} {at n k : ℕ} {out : List A} {left right samples : List ℤ} → Shaping s at n out → Laid shape n k left right samples → 0 < n
      → length out₀ - (at + k) < length out₀ - at
  shape-less {n = n} {k} h l z = omega (arith, (shape-fits h l).0, span-some shape n k l.count z)

  pub shape-turn : {sides : Bool} {s t : Present} {at n k j : ℕ} {out cells : List A} {lw rr left right samples : List ℤ} → sides ≡ sides_of shape → Shaping s at n out
      → Block sides s (min n 256) lw rr t left right → Laid shape n k left right samples → cells ≡ map f (take k samples) → Span shape (length out₀ - (at + k)) j
      → Shaping t (at + k) j (take at out ++ (cells ++ drop (at + k - at) (drop at out)))
  shape-turn {s = s} {at = at} {n = n} e h block l laid next =
      let b = rw e at block in
      record {
        filling = filling-turn ValidInside (step_by shape) (λ m. map f (raw_by shape m)) (wide shape) m out₀ (shape-wide f shape) n h.filling (block-state shape n h.span.few b)
            (laid ∙ ap (map f) (l.gave ∙ block-laid shape n h.span.few b) ∙ map-given f (step_by shape) (raw_by shape) n s) (ap (λ (i : ℕ). at + i) l.count) (shape-fits h l).0;
        span = next;
      }

  pub shape-end : {s : Present} {at n : ℕ} {out : List A} → Shaping s at n out → n ≤ 0 → FillsFrom f shape m out₀ (record { state = s; filled = at }) out
  shape-end {s} {at} {n} h less =
      let e : n ≡ 0 = omega arith in
      let g = h.filling in
      let c = shape-counts shape g.frames at (length out₀) g.count g.fits (h.span.none e) in
      record { state = rw c.0 at g.state; count = c.1; content = rw (c.0, c.1) at (filling-end ValidInside (step_by shape) (λ m. map f (raw_by shape m)) (wide shape) m out₀ (shape-wide f shape) g) }

-- ---- blocks by level
abbrev step_at : Level → Present → Present
step_at l = level_next present_frames l

abbrev cell_at : Level → Present → List ℕ
cell_at l = level_cell present_frames l

pub level-wide : (l : Level) (m : Present) → length (cell_at l m) ≡ 1
level-wide Duty m = refl
level-wide U12 m = refl
level-wide U16 m = refl

module _ (level : Level) (m : Present) (out₀ : List ℕ) where
  abbrev pub Levelling : Present → ℕ → List ℕ → Type 0
  Levelling s at out = Filling ValidInside (step_at level) (cell_at level) 1 m out₀ s at out

  pub level-turn : {s x : Present} {at : ℕ} {out cells : List ℕ} {lw rr left right : List ℤ} (n period : ℕ) (q : PwmMapper) → period ≡ m.mixer.config.pwm_period → Levelling s at out → n ≤ 256
      → at + n ≤ length out₀ → Block false s (min n 256) lw rr x left right → Made ValidMapper (mapper_over level period x.mixer.mapper (take n left)) q
      → cells ≡ levels_over level period x.mixer.mapper (take n left) → Levelling (mapper_at x q) (at + n) (take at out ++ (cells ++ drop (at + n - at) (drop at out)))
  level-turn {s} {x} {left = left} n period q per h few fits b made laid =
      let state = made-few mono_next s n few b.state in
      let p : period ≡ s.mixer.config.pwm_period = rw (h.state.same, level-period level h.frames m) per in
      let heard = block-cells mono_next pcm_of n s _ few b.left in
      filling-turn ValidInside (step_at level) (cell_at level) 1 m out₀ (level-wide level) n h
      (record { same = state-is level s x n period (take n left) state.same p heard q made.same; valid = valid-mapper q made.valid state.valid })
      (laid ∙ cells_are level s x n period (take n left) state.same p heard) (omega arith) fits

  pub level-end : {s : Present} {at : ℕ} {out : List ℕ} → Levelling s at out → length out₀ ≤ at → LevelsFrom level m out₀ (record { state = s; filled = at }) out
  level-end {at = at} h less =
      let e : at ≡ length out₀ = omega (arith, h.fits) in
      let n : h.frames ≡ length out₀ = omega (arith, h.count) in
      record { state = rw n at h.state; count = e; content = rw (n, e) at (filling-end ValidInside (step_at level) (cell_at level) 1 m out₀ (level-wide level) h) }

pub ruleset shape_blocks = (shape-start, shape-fits, shape-less)

pub ruleset level_blocks = (filling-start, filling-long, level-turn)
