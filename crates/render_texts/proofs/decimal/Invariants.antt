-- The digits that stand, behind those that are still to come, are the number's.
use Prim.Native.Nat.{◌^◌, ◌≤◌, ◌<◌}
use mathlib.Core.Path.{◌≡◌}
use mathlib.Core.List.{◌++◌}
use lib.ListN.{length, drop}
use Rattle.render_texts.specs.Texts.{decimal}
use Rattle.render_texts.proofs.Spelling.{front}
use Rattle.render_texts.proofs.decimal.Given as goal

abbrev pub invariant-loop-rest : goal.invariant-loop-rest
invariant-loop-rest l = record {
  digits : front l.at l.rest ++ drop l.at l.digits ≡ decimal l.n;
  places : l.rest < 10 ^ l.at;
  length : length l.digits ≡ 20;
  at : l.at ≤ 19;
}

abbrev pub decreases-loop-rest : goal.decreases-loop-rest
decreases-loop-rest l = l.rest
