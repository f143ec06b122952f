-- The numbers of the loop are an envelope's after so many ticks, and what is stored are their levels. Assumes nothing.
use Rattle.std.proofs.Common.{◌≡◌, ◌+◌}
use Rattle.laws.proofs.Stores.{Wrote}
use Rattle.envelope.specs.declared.Adsr.{Adsr}
use Rattle.envelope.specs.Adsrs.{in_phase, advanced_toward}
use Rattle.envelope.proofs.Adsr.ramp.Given as goal

abbrev pub invariant-loop-cell : goal.invariant-loop-cell
invariant-loop-cell l =
    (l.count ≡ l.self.samples_in_phase + l.cell-index)
    × Wrote (advanced_toward l.target) (λ (a : Adsr). (advanced_toward l.target a).level_q8) l.self l.initial.cell-items 0 l.cell-index
    (in_phase l.self l.self.phase l.level l.count l.self.phase_length_samples) l.cell-items
