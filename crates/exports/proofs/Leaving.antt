-- Requests that are left: the loop over them, in which those that are still to be left give what all give; and what is told after the frames. Assumes nothing.
use Prim.Native.Nat.{ℕ, suc, ◌+◌, ◌-◌, ◌*◌, ◌≤◌, ◌<◌}
use mathlib.Core.Path.{◌≡◌, ap, sym, ◌∙◌}
use mathlib.Core.List.{List, ◌∷◌, append-nil}
use native.Mathlib.Omega.{arith}
use native.Mathlib.Numerals.{add-one}
use lib.IntN.{ℤ}
use lib.ListN.{set}
use lib.Seq.{sets, drop-length}
use Rattle.buffers.specs.Buffers.{to_i16}
use Rattle.buffers.specs.declared.Shape.TheVariants.{Once}
use Rattle.entering.specs.declared.Lined.{Lined}
use Rattle.error.specs.Told.{told, number_in}
use Rattle.requests.specs.Slices.{big16_at, request_at}
use Rattle.sounder.specs.Calls.{Outcome, left_in}
use Rattle.sounder.specs.Frames.{Fills}
use Rattle.sounder.specs.Sounders.{After, Gives}
use Rattle.start.specs.declared.Request.{Request}
use Rattle.waiting.specs.Lines.{in_line, label_cells}
use Rattle.exports.specs.Waits.{leaving_at, leaving, leavings_from, leavings_of, left_all, numbers_of, LeavesEach, dropped_cells, Lent, lent, waited_out}

-- the box s, to which those from i on are still to be left, and the cells told so far
pub record Leaving (start : Lined) (left cells₀ : List ℕ) (count i : ℕ) (s : Lined) (cells : List ℕ) : Type 0 where
  pub within : i ≤ count
  pub same : left_all start (leavings_from left 0 count) ≡ left_all s (leavings_from left i (count - i))
  pub told : sets cells₀ 0 (numbers_of start (leavings_from left 0 count)) ≡ sets cells i (numbers_of s (leavings_from left i (count - i)))

module _ (start : Lined) (left cells₀ : List ℕ) (count : ℕ) where
  pub leaving-start : Leaving start left cells₀ count 0 start cells₀
  leaving-start = let e : count - 0 ≡ count = omega arith in record { within = omega arith; same = rw e; told = rw e }

  module _ (i : ℕ) (s : Lined) (cells : List ℕ) (l : Leaving start left cells₀ count i s cells) where
    next : i < count → leavings_from left i (count - i) ≡ leaving_at left (12 * i) ∷ leavings_from left (i + 1) (count - (i + 1))
    unfolding leavings_from
    next h = let e : count - i ≡ suc (count - (i + 1)) = omega arith in rw (e, add-one i)

    pub leaving-turn : (label : ℕ) (r : Request) (o : Outcome) (t : Lined) (n : ℕ) → i < count → label ≡ big16_at left (12 * i) → r ≡ request_at left (12 * i + 2)
        → Gives (left_in s label r) o t → n ≡ number_in (told o)
        → Leaving start left cells₀ count (i + 1) t (set cells i n)
    unfolding left_all numbers_of
    leaving-turn label r o t n h k q m e =
        let x = leaving s (leaving_at left (12 * i)) in
        let g : Gives x o t = rw (k, q) at m in
        let state : t ≡ x.lined = ap (λ (y : After Outcome). y.lined) g.same in
        let outcome : o ≡ x.gave = ap (λ (y : After Outcome). y.gave) g.same in
        record {
          within = omega arith;
          same = l.same ∙ rw (next h, state);
          told = l.told ∙ rw (next h, e, state, outcome, add-one i);
        }

    pub leaving-end : count ≤ i → (s ≡ left_all start (leavings_from left 0 count)) × (cells ≡ sets cells₀ 0 (numbers_of start (leavings_from left 0 count)))
    unfolding left_all numbers_of leavings_from
    leaving-end h = let e : count - i ≡ 0 = omega arith in (sym (l.same ∙ rw e), sym (l.told ∙ rw e))

-- what a box tells to which they were left, after its frames
pub waited : (bytes left : List ℕ) (cells : Lent) (f : Lined) (n : ℕ) {p q s : Lined} {numbers : List ℕ} {out : List ℤ} {labels : List ℕ} {count : ℕ} {dropped : List ℕ}
    → q ≡ p → LeavesEach q left cells.numbers s numbers → Fills to_i16 Once bytes s cells.out n f out
    → labels ≡ label_cells (in_line f.line) → count ≡ f.line.count → dropped ≡ dropped_cells f.kept
    → lent numbers out labels count dropped ≡ waited_out bytes (leavings_of left) cells p
waited bytes left cells f n e l h labels count dropped =
    rw (labels, count, dropped, h.state.same, h.content, l.numbers, l.box, e, drop-length cells.out, append-nil)
