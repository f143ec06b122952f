-- `polyblep::corrections::sine_part` meets its contract: at a phase the definition's remainder and turn change nothing.
use Rattle.std.proofs.Common.{◌≡◌, cond, rules}
use lib.Ieee.{of_bits, round, lt, neg}
use Rattle.laws.specs.F32.{◌⊖◌, lit}
use Rattle.polyblep.specs.Sine.{pi, arch}
use Rattle.polyblep.specs.Waves.{sine_part}
use Rattle.polyblep.proofs.Turn.{angle, sine-is}
use Rattle.polyblep.proofs.corrections.sine_part.Goals.{Start}
use Rattle.polyblep.proofs.corrections.sine_part.Goals as goal

is : (c : Start) → sine_part c.args.t ≡ cond (lt pi (angle c.args.t)) (arch (neg (lit 1 1)) (angle c.args.t ⊖ pi)) (arch (lit 1 1) (angle c.args.t))
is c = sine-is c.args.t (search rules) c.requires

pub returns-then-x : goal.returns-then-x
unfolding of_bits round neg
returns-then-x c = rw (is (goal.at.returns-then-x c).Start, c.if-x.true, c.arch_f32.ensures)

pub returns-else-x : goal.returns-else-x
unfolding of_bits round
returns-else-x c = rw (is (goal.at.returns-else-x c).Start, c.if-x.false, c.arch_f32-else-x.ensures)
