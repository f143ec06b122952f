-- What all would leave is what those left in line leave of what is there. Assumes nothing.
use mathlib.Core.Path.{◌≡◌}
use lib.ListN.{drop}
use Rattle.waiting.specs.Lines.{in_line}
use Rattle.entering.specs.Lined.{Valid}
use Rattle.entering.specs.Entering.{entered_in}
use Rattle.entering.proofs.enter.Given as goal

abbrev pub invariant-loop-w : goal.invariant-loop-w
invariant-loop-w l = Valid l.out × (in_line l.out.line ≡ drop l.w-index l.w-items) × (entered_in l.bytes l.fn.s ≡ entered_in l.bytes l.out)
