-- `block::plain` meets its contract: the voices one by one, then the means. The measure is the voices left.
use Prim.Native.Nat.{◌-◌, ◌≤◌}
use mathlib.Core.Path.{◌≡◌}
use Rattle.mixer.specs.Mixers.{with_voices}
use Rattle.block.proofs.Frames.{run_all}
use Rattle.block.proofs.Gather.{Summed, Counted, mono_value}
use Rattle.block.proofs.plain.Given as goal

abbrev pub invariant-loop-i : goal.invariant-loop-i
invariant-loop-i l = (l.i ≤ l.n) × (l.mixed ≡ with_voices l.m (run_all l.len l.i l.m.voices)) × Summed (mono_value l.marks) l.len l.i l.m.voices l.sums × Counted l.marks l.len l.i l.m.voices l.counts

abbrev pub decreases-loop-i : goal.decreases-loop-i
decreases-loop-i l = l.n - l.i
