-- `fm::FmVoice::samples` meets its contract: the two phases are the oscillator's after k samples, which are stored.
use Rattle.std.proofs.Common.{ℕ, ◌≤◌}
use lib.ListN.{length}
use Rattle.laws.proofs.Stores.{Wrote}
use Rattle.fm.specs.declared.FmVoice.{FmVoice}
use Rattle.fm.specs.Fm.{fm_sample, advanced_fm}
use Rattle.fm.proofs.FmVoice.samples.Given as goal

abbrev pub at_phases : FmVoice → ℕ → ℕ → FmVoice
at_phases v carrier modulator =
    record {
      carrier_phase = carrier;
      carrier_inc = v.carrier_inc;
      mod_phase = modulator;
      mod_inc = v.mod_inc;
      mod_depth_q8 = v.mod_depth_q8;
      active = v.active;
    }

abbrev pub invariant-loop-cell : goal.invariant-loop-cell
invariant-loop-cell l = (l.cell-index ≤ length l.initial.cell-items) × Wrote advanced_fm fm_sample l.self l.initial.cell-items 0 l.cell-index (at_phases l.self l.carrier l.modulator) l.cell-items
