-- Parts of a buffer, of any kind of frame: in each none goes in but at its start. Assumes nothing.
use Prim.Native.Nat.{ℕ, zero, suc, ◌+◌, ◌*◌, ◌-◌, ◌≤◌, min}
use native.Mathlib.Nat.{add-mul, zero-add, add-zero, zero-mul}
use native.Mathlib.Omega.{arith}
use borrow.Author.Tests.{eqb-true, eqb-false}
use mathlib.Core.Path.{◌≡◌, refl, sym, ◌∙◌, ap}
use mathlib.Core.Bool.{Bool, true, false, cond}
use mathlib.Core.List.{List, [], ◌++◌, append-nil}
use lib.Dec.{eqb}
use lib.ListN.{length, take, drop}
use lib.Seq.{drop-length}
use Rattle.block.specs.Blocks.{ValidInside}
use Rattle.buffers.specs.Buffers.{Done, FillsIn}
use Rattle.buffers.proofs.Blocks.{Filling, filling-start, filling-long, filling-turn, filling-end}
use Rattle.buffers.proofs.Settled.{fills-settled}
use Rattle.entering.specs.Entering.{entered_in}
use Rattle.entering.specs.Lined.{Valid, lined}
use Rattle.entering.specs.declared.Lined.{Lined}
use Rattle.frame.proofs.Settling.{Still}
use Rattle.frame.proofs.Sized.{Ready}
use Rattle.laws.specs.Made.{Made}
use Rattle.laws.specs.Runs.{after, given}
use Rattle.marks.specs.Marks.{settled}
use Rattle.marks.specs.declared.Present.{Present}
use Rattle.spans.specs.Frames.{framed_lined, given_lined}
use Rattle.spans.specs.Spans.{steady_frames}
use Rattle.spans.proofs.Steady.{IsFrame, lasts-some}
use Rattle.spans.proofs.Laws.{Quiet, none-quiet, busy-quiet, waits-busy, span-after, span-given}
use Rattle.filling.specs.Parts.{at_once}

-- ---- how many frames at once
pub once-most : (s : Lined) (left : ℕ) → at_once s left ≤ left
once-most s left = go (eqb s.line.count 0)
  where
    go : (t : Bool) → cond t left (min (steady_frames s.present.mixer) left) ≤ left
    go true = omega arith
    go false = omega arith

pub once-some : (s : Lined) (left : ℕ) → Valid s → 1 ≤ left → 1 ≤ at_once s left
once-some s left h k = go (eqb s.line.count 0)
  where
    go : (t : Bool) → 1 ≤ cond t left (min (steady_frames s.present.mixer) left)
    go true = k
    go false = omega (arith, lasts-some s.present.mixer h.present.inside, k)

-- ---- a buffer's counts, said otherwise
pub recount : {State A : Type 0} {Good : State → Type 0} {step : State → State} {gives : State → List A} {i j v w : ℕ} {s : State} {cells filled : List A} {r : Done State}
    → i ≡ j → v ≡ w → FillsIn Good step gives i v s cells r filled → FillsIn Good step gives j w s cells r filled
recount e f h = record { state = rw e at h.state; count = h.count ∙ f; content = rw (e, f) at h.content }

-- a kind of frame: settling may wait, a frame takes at most one off what is left, and what it gives is so wide
pub record Kind {A : Type 0} (step : Present → Present) (gives : Present → List A) (width : ℕ) : Type 0 where
  pub still : (p : Present) → Ready p → Still step gives p
  pub frame : IsFrame (λ p. settled (step p))
  pub wide : (p : Present) → length (gives p) ≡ width
  pub cancel : (i j : ℕ) → i * width ≡ j * width → i ≡ j

module _ {A : Type 0} {step : Present → Present} {gives : Present → List A} {width : ℕ} (kind : Kind step gives width) (bytes : List ℕ) where
  abbrev each : Present → Present
  each p = settled (step p)

  -- in a part none goes in but at its start
  quiet : (s : Lined) → Valid s → Valid (entered_in bytes s) → (n left : ℕ) → n ≡ at_once (entered_in bytes s) left → Quiet each bytes n (entered_in bytes s)
  quiet s h v n left e = go (eqb (entered_in bytes s).line.count 0) refl
    where
      go : (t : Bool) → eqb (entered_in bytes s).line.count 0 ≡ t → Quiet each bytes n (entered_in bytes s)
      go true z = none-quiet each bytes n (entered_in bytes s) v.line (eqb-true _ _ z)
      go false z =
          let b : n ≡ min (steady_frames (entered_in bytes s).present.mixer) left = rw z at e in
          busy-quiet each bytes kind.frame n (entered_in bytes s) v (waits-busy bytes s h (eqb-false _ _ z)) (omega arith)

  abbrev lined_step : Lined → Lined
  lined_step = framed_lined each bytes

  abbrev lined_cells : Lined → List A
  lined_cells = given_lined gives bytes

  -- a part's frames are those of the state with its line
  record Run (n : ℕ) (s : Lined) (q : Present) (filled : List A) : Type 0 where
    state : lined q (entered_in bytes s).kept (entered_in bytes s).line ≡ after lined_step n s
    cells : filled ≡ given lined_step lined_cells n s

  runs : (n left : ℕ) (s : Lined) {q : Present} {filled : List A} → Valid s → Valid (entered_in bytes s) → 1 ≤ n → n ≡ at_once (entered_in bytes s) left
      → q ≡ after each n (entered_in bytes s).present → filled ≡ given each gives n (entered_in bytes s).present → Run n s q filled
  runs zero left s h v k e a c = absurd (omega arith)
  runs (suc n) left s h v k e a c =
      let z = quiet s h v (suc n) left e in
      record {
        state = ap (λ (p : Present). lined p (entered_in bytes s).kept (entered_in bytes s).line) a ∙ sym (span-after each bytes s h n z);
        cells = c ∙ sym (span-given each bytes s h n z gives);
      }

  -- ---- part after part: of so many frames, which there is room for
  module _ (s₀ : Lined) (out₀ : List A) (total : ℕ) (room : total * width ≤ length out₀) where
    pub record Parting (s : Lined) (at left : ℕ) (out : List A) : Type 0 where
      pub filling : Filling Valid lined_step lined_cells width s₀ out₀ s at out
      pub rest : at + left * width ≡ total * width

    pub parts-start : Valid s₀ → Parting s₀ 0 total out₀
    parts-start v = record { filling = filling-start _ _ _ _ _ _ v; rest = rw zero-add }

    pub parts-long : {s : Lined} {at left : ℕ} {out : List A} → Parting s at left out → length out ≡ length out₀
    parts-long h = filling-long _ _ _ _ _ _ h.filling

    split : (n left : ℕ) → n ≤ left → left * width ≡ n * width + (left - n) * width
    split n left k = let e : left ≡ n + (left - n) = omega arith in ap (λ (t : ℕ). t * width) e ∙ add-mul n (left - n) width

    -- the next part has room
    pub parts-fit : {s : Lined} {at left : ℕ} {out : List A} (n : ℕ) → Parting s at left out → n ≤ left → at + n * width ≤ length out₀
    parts-fit {left = left} n h k = omega (arith, split n left k, h.rest, room)

    pub parts-turn : {s e : Lined} {q : Present} {at left n end : ℕ} {out cells filled : List A} {r : Done Present} → Parting s at left out → 1 ≤ left
        → Made Valid (entered_in bytes s) e → n ≡ at_once e left → end ≡ at + n * width → length cells ≡ n * width
        → FillsIn ValidInside step gives n (n * width) e.present cells r filled → q ≡ settled r.state
        → Parting (lined q e.kept e.line) end (left - n) (take at out ++ (filled ++ drop (end - at) (drop at out)))
    parts-turn {s} {e} {q} {at} {left} {n} {end} {out} {cells} {filled} {r} h k m o b l f z =
        let most : n ≤ left = rw o (once-most e left) in
        let some : 1 ≤ n = rw o (once-some e left m.valid k) in
        let g = fills-settled step gives kind.still n (n * width) e.present cells filled r m.valid.present z f in
        let none : drop (n * width) cells ≡ [] = ap (λ (i : ℕ). drop i cells) (sym l) ∙ drop-length cells in
        let c : filled ≡ given each gives n e.present = g.content ∙ rw (none, append-nil) in
        let run = runs n left s h.filling.state.valid (rw m.same at m.valid) some (rw m.same at o) (rw m.same at g.state.same) (rw m.same at c) in
        record {
          filling =
              filling-turn Valid lined_step lined_cells width s₀ out₀ (λ s. kind.wide (entered_in bytes s).present) n h.filling
              (record { same = rw m.same run.state; valid = record { present = g.state.valid; line = m.valid.line } })
              run.cells b (rw b (parts-fit n h most));
          rest = omega (arith, h.rest, split n left most, b);
        }

    pub parts-end : {s : Lined} {at : ℕ} {out : List A} → Parting s at 0 out → FillsIn Valid lined_step lined_cells total (total * width) s₀ out₀ (record { state = s; filled = at }) out
    parts-end {s} {at} h =
        let g = h.filling in
        let c : at ≡ total * width = rw (zero-mul, add-zero) at h.rest in
        let n : g.frames ≡ total = kind.cancel g.frames total (sym g.count ∙ c) in
        record {
          state = rw n at g.state;
          count = c;
          content = rw (n, c) at (filling-end Valid lined_step lined_cells width s₀ out₀ (λ s. kind.wide (entered_in bytes s).present) g);
        }
