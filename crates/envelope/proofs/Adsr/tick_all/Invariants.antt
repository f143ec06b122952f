-- The envelope is the one after k ticks, and what is stored are their levels. The measure is the ticks left. Assumes nothing.
use lib.ListN.{length}
use Prim.Native.Nat.{◌-◌, ◌≤◌}
use Rattle.envelope.specs.declared.Adsr.{Adsr}
use Rattle.envelope.specs.Adsrs.{Valid, ticked}
use Rattle.laws.proofs.Stores.{Wrote}
use Rattle.envelope.proofs.Adsr.tick_all.Given as goal

abbrev pub invariant-loop-k : goal.invariant-loop-k
invariant-loop-k l = (l.k ≤ length l.initial.out) × Valid l.a × Wrote ticked (λ (a_ : Adsr). (ticked a_).level_q8) l.initial.a l.initial.out 0 l.k l.a l.out

abbrev pub decreases-loop-k : goal.decreases-loop-k
decreases-loop-k l = length l.out - l.k
