-- By the side on which the target lies; the step is no longer than the distance. Assumes nothing.
use native.Mathlib.Omega.{arith}
use Rattle.envelope.specs.Adsrs.{next_level}
use Rattle.envelope.proofs.Levels.{up, down}
use Rattle.envelope.proofs.next_level.Goals as goal

pub returns-then-level-target : goal.returns-then-level-target
unfolding next_level
returns-then-level-target c =
    let a = c.args in
    rw (c.part.ensures, up {l = a.level} {t = a.target} a.count a.length (omega arith))

pub returns-else-level-target : goal.returns-else-level-target
unfolding next_level
returns-else-level-target c =
    let a = c.args in
    rw (c.part-else-level-target.ensures, down {l = a.level} {t = a.target} {c = a.count} {n = a.length} (omega arith) (omega arith))
