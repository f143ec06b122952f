-- `input_lines::fill` meets its contract: what the rest of the chunk makes of the line is what all of it makes.
use mathlib.Core.Path.{◌≡◌}
use Prim.Native.Nat.{◌≤◌, max}
use lib.ListN.{length, drop}
use Rattle.input_lines.specs.Lines.{lined}
use Rattle.input_lines.proofs.fill.Given as goal

abbrev pub invariant-loop-i : goal.invariant-loop-i
invariant-loop-i l = record {
  room : length l.line ≡ length l.initial.line;
  within : l.i ≤ max l.from (length l.chunk);
  rest : lined l.line l.n l.i (drop l.i l.chunk) ≡ lined l.initial.line l.at l.from (drop l.from l.chunk);
}
