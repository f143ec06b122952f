-- `exports::levels::levels` meets its contract: a tick after each cell, whose levels are stored.
use Prim.Native.Nat.{ℕ}
use Rattle.laws.proofs.Stores.{Wrote}
use Rattle.envelope.specs.Adsrs.{ticked}
use Rattle.envelope.specs.declared.Adsr.{Adsr}
use Rattle.exports.proofs.levels.levels.Given as goal

abbrev pub level : Adsr → ℕ
level e = (ticked e).level_q8

abbrev pub invariant-loop-cell : goal.invariant-loop-cell
invariant-loop-cell l = Wrote ticked level l.initial.e l.initial.cell-items 0 l.cell-index l.e l.cell-items
