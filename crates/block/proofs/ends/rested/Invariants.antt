-- `block::ends::rested` meets its contract: the voices one by one. The measure is the voices left.
use Prim.Native.Nat.{◌-◌, ◌≤◌}
use mathlib.Core.Path.{◌≡◌}
use Rattle.frame.specs.Fades.{voice_at}
use Rattle.laws.specs.Runs.{after}
use Rattle.mixer.specs.Mixers.{with_voices}
use Rattle.voice.specs.Voices.{ticked_voice}
use Rattle.block.proofs.Parts.{others}
use Rattle.block.proofs.ends.rested.Given as goal

abbrev pub invariant-loop-i : goal.invariant-loop-i
invariant-loop-i l = (2 ≤ l.i) × (l.i ≤ l.n) × (l.out ≡ with_voices l.initial.out (others (after ticked_voice l.len) (voice_at l.initial.out 0) (voice_at l.initial.out 1) l.i l.initial.out.voices))

abbrev pub decreases-loop-i : goal.decreases-loop-i
decreases-loop-i l = l.n - l.i
