-- `replay_replies::put_ranks` meets its contract: the ranks of the N voices, no more than there are cells.
use Prim.Native.Nat.{◌≤◌}
use native.Mathlib.Omega.{arith}
use mathlib.Core.Path.{sym}
use lib.ListN.{length, take}
use lib.Seq.{length-take-le}
use Rattle.hex_digits.proofs.Texts.{length-hex_of}
use Rattle.replay_cells.specs.Cells.{byte_text}
use Rattle.replay_cells.proofs.Turns.{numbered-all}
use Rattle.replay_replies.proofs.put_ranks.Goals.{After-state-n}
use Rattle.replay_replies.proofs.put_ranks.Goals as goal

there : (v : After-state-n) → v.state-n.result.n ≤ length v.ranks-ranks.result
there v = omega (arith, v.state-n.ensures.valid.few, v.ranks-ranks.type_inv)

pub returns : goal.returns
returns c =
    let v = (goal.at.returns c).After-state-n in
    let all = numbered-all byte_text 0 0 2 (λ x. length-hex_of 2 x) (take c.state-n.result.n c.ranks-ranks.result) (omega (arith, length-take-le c.state-n.result.n c.ranks-ranks.result (there v), there v, c.ranks-ranks.type_inv)) c.put_cells.ensures in
    rw (sym c.state-n.ensures.same, sym c.ranks-ranks.ensures) all

pub slice_bounds-ranks-end : goal.slice_bounds-ranks-end
slice_bounds-ranks-end c = there (goal.at.slice_bounds-ranks-end c).After-state-n

pub slice_bounds-put_cells-end : goal.slice_bounds-put_cells-end
slice_bounds-put_cells-end c = sym (length-take-le _ _ (there (goal.at.slice_bounds-put_cells-end c).After-state-n))
