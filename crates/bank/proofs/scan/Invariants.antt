-- `bank::scan` meets its contract: the entries left answer for all.
use Rattle.bank.proofs.Steps.{Scanning}
use Rattle.bank.proofs.scan.Given as goal

abbrev pub invariant-loop-i : goal.invariant-loop-i
invariant-loop-i l = Scanning l.bytes l.count l.id l.i
