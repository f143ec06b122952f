-- What the part promises, in its box. Assumes nothing.
use Rattle.sounder.proofs.Heard.{bleped-others}
use Rattle.sounder.proofs.Valid.{first-order, made-first}
use Rattle.sounder.proofs.Sounder.play_polyblep.Goals as goal

pub settled-self-inside-requires : goal.settled-self-inside-requires
settled-self-inside-requires c = first-order c.self.invariant c.play_polyblep-mixer.ensures (bleped-others _ _ _ _) c.started-marks.ensures

pub invariant_of-self : goal.invariant_of-self
invariant_of-self c =
    (made-first c.self.invariant c.play_polyblep-mixer.ensures (bleped-others _ _ _ _) c.started-marks.ensures c.settled-self-inside.ensures).valid

pub returns : goal.returns
returns c =
    rw (← c.self.view_is)
    (made-first c.self.invariant c.play_polyblep-mixer.ensures (bleped-others _ _ _ _) c.started-marks.ensures c.settled-self-inside.ensures)
