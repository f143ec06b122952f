-- A block is of at most 256 ticks, whose levels are stored from the front on. Assumes nothing.
use Rattle.std.proofs.Common.{arith, ◌≡◌, ap, ◌++◌, ℕ, List, drop}
use lib.Seq.{length-take-le}
use Rattle.laws.specs.Runs.{given}
use Rattle.envelope.specs.Adsrs.{ticked}
use Rattle.envelope.specs.Blocks.{level_after}
use Rattle.envelope.proofs.Adsr.levels.Goals as goal

pub returns : goal.returns
returns c =
    let a = c.args in
    let n = c.min.result in
    let l = length-take-le n a.out.now (omega arith) in
    let f : c.tick_all.new.out ≡ given ticked level_after n a.self = rw l at c.tick_all.ensures.out_after in
    rw (← c.min.ensures)
    (record {
      made = rw l at c.tick_all.ensures.made;
      out_after = ap (λ (cells : List ℕ). cells ++ drop n a.out.now) f;
    })
