-- `replay_replies::put_waiting` meets its contract: the first cells are the labels of those that wait.
use Prim.Native.Nat.{ℕ, ◌≤◌, ◌-◌}
use native.Mathlib.Omega.{arith}
use mathlib.Core.Path.{◌≡◌, sym, ap, ◌∙◌}
use mathlib.Core.List.{List, map}
use lib.ListN.{length, take, replicate, length-map, length-append}
use lib.Seq.{length-take-le, take-append_seam}
use Rattle.hex_digits.proofs.Texts.{length-hex_of}
use Rattle.replay_box.specs.Boxes.{waiting_in}
use Rattle.hex_digits.specs.Hex.{Wrote}
use Rattle.replay_cells.specs.Cells.{wide_text, numbered_text}
use Rattle.replay_cells.proofs.Turns.{numbered-all}
use Rattle.waiting.specs.Lines.{label_of, label_cells}
use Rattle.waiting.specs.declared.Waiting.{Waiting}
use Rattle.replay_replies.proofs.put_waiting.Goals.{After-waiting_count-n}
use Rattle.replay_replies.proofs.put_waiting.Goals as goal

first : (ws : List Waiting) → take (length ws) (label_cells ws) ≡ map label_of ws
first ws = ap (λ (k : ℕ). take k (label_cells ws)) (sym (length-map ws label_of)) ∙ take-append_seam (map label_of ws) _

-- the cells that are lent, and how many
labels : (v : After-waiting_count-n) → take v.waiting_count-n.result v.waiting_labels-labels.result ≡ map label_of (waiting_in v.args.e.now)
labels v = rw (v.waiting_labels-labels.ensures, v.waiting_count-n.ensures) (first (waiting_in v.args.e.now))

there : (v : After-waiting_count-n) → v.waiting_count-n.result ≤ length v.waiting_labels-labels.result
there v =
    let ws = waiting_in v.args.e.now in
    omega (arith, v.waiting_count-n.ensures, ap length v.waiting_labels-labels.ensures, length-append (map label_of ws) (replicate (32 - length (map label_of ws)) 0), length-map ws label_of)

shown : {before after ls ms : List ℕ} {n k len : ℕ} → ls ≡ ms → n ≡ k → Wrote before 0 (numbered_text 2 n wide_text ls) after len → Wrote before 0 (numbered_text 2 k wide_text ms) after len
shown e f w = rw (e, f) at w

pub returns : goal.returns
returns c =
    let v = (goal.at.returns c).After-waiting_count-n in
    let all = numbered-all wide_text 2 c.waiting_count-n.result 4 (λ x. length-hex_of 4 x) (take c.waiting_count-n.result c.waiting_labels-labels.result) (omega (arith, length-take-le c.waiting_count-n.result c.waiting_labels-labels.result (there v), there v, c.waiting_labels-labels.type_inv)) c.put_cells.ensures in
    shown (labels v) c.waiting_count-n.ensures all

pub slice_bounds-labels-end : goal.slice_bounds-labels-end
slice_bounds-labels-end c = there (goal.at.slice_bounds-labels-end c).After-waiting_count-n

pub slice_bounds-put_cells-end : goal.slice_bounds-put_cells-end
slice_bounds-put_cells-end c = sym (length-take-le _ _ (there (goal.at.slice_bounds-put_cells-end c).After-waiting_count-n))
