-- `replay_patterns::read` meets its contract: the cells lent are the bytes that were stored.
use mathlib.Core.Path.{◌≡◌, sym, ap, ◌∙◌}
use Prim.Native.Nat.{◌≤◌}
use native.Mathlib.Omega.{arith}
use lib.ListN.{length, length-replicate}
use lib.Seq.{length-sets, length-take-le}
use Rattle.hex_digits.proofs.Front.{front_bytes}
use Rattle.evacuation.specs.Reader.{whole_cycles}
use Rattle.replay_patterns.proofs.read.Goals.{After-bytes_from}
use Rattle.replay_patterns.proofs.read.Lts as lts
use Rattle.replay_patterns.proofs.read.Reads as reads
use Rattle.replay_patterns.proofs.read.Tie as tie
use Rattle.replay_patterns.proofs.read.Goals as goal

abbrev At-After-bytes_from : Type 0
At-After-bytes_from = lts.After-bytes_from tie.the-claims reads.Pre reads.Post

full : (c : At-After-bytes_from) → length c.bytes_from.new.cells ≡ 4096
full c = ap length c.bytes_from.ensures ∙ simp (length-sets, length-replicate)

fits : (c : At-After-bytes_from) → c.args.n ≤ length c.bytes_from.new.cells
fits c = rw (full c) (omega (arith, c.requires))

pub slice_bounds-whole_cycles-end : goal.slice_bounds-whole_cycles-end
slice_bounds-whole_cycles-end c =
    sym (length-take-le c.args.n c.bytes_from.new.cells (fits (goal.at.slice_bounds-whole_cycles-end c).After-bytes_from.before))

pub returns : goal.returns
returns c =
    let l = c.args.l.now in
    c.whole_cycles.ensures
    ∙ ap (whole_cycles c.args.r)
    (rw c.bytes_from.ensures (front_bytes l _ 5 c.args.n (omega (arith, c.requires)) (rw length-replicate (omega (arith, c.requires)))))

pub slice_bounds-cells-end : goal.slice_bounds-cells-end
slice_bounds-cells-end c = fits c.before
