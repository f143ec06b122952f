-- `evacuation::Reader::whole_cycles` meets its contract: what the pass over the rest says is the answer.
use Rattle.std.proofs.Common.{arith, ◌≡◌, ◌∙◌, sym, length}
use mathlib.Core.Bool.{and-true, and-false}
use borrow.Author.Tests.{eq-eqb, ne_eqb}
use lib.ListN.{get_or}
use Rattle.evacuation.proofs.Runs.{phase_byte}
use Rattle.evacuation.proofs.Passes.{hears-none, hears-more, hears-next, hears-above, hears-off, hears-end}
use Rattle.evacuation.proofs.Reader.whole_cycles.Goals.{Else-b-phase_byte, then-b-phase_byte, else-b-phase_byte+else-b-gt1+else-not-within_tenth}
use Rattle.evacuation.proofs.Reader.whole_cycles.Goals as goal

-- the byte is not the phase's
turned : (c : Else-b-phase_byte) → get_or c.args.recording.now c.loop-b.b-index 0 ≡ phase_byte c.loop-b.phase → ⊥
turned c e = c.if-b-phase_byte.false (e ∙ sym c.phase_byte.ensures)

pub loop-b-init : goal.loop-b-init
loop-b-init c = hears-none c.self.inside.sample_rate_hz (omega (arith, c.self.invariant.least)) c.args.recording.now

pub returns-then-b-gt1 : goal.returns-then-b-gt1
returns-then-b-gt1 c =
    rw (← c.self.view_is) (hears-above c.loop-b.invariant c.loop-b-test.true (turned (goal.at.returns-then-b-gt1 c).Else-b-phase_byte) c.if-b-gt1.true)

pub returns-then-not-within_tenth : goal.returns-then-not-within_tenth
returns-then-not-within_tenth c =
    rw (← c.self.view_is)
    (hears-off c.loop-b.invariant c.loop-b-test.true (turned (goal.at.returns-then-not-within_tenth c).Else-b-phase_byte) (sym c.within_tenth.ensures ∙ c.if-not-within_tenth.true))

pub loop-b-preserved : goal.loop-b-preserved
loop-b-preserved c =
    let h = c.loop-b.invariant in
    elim c.if-b-phase_byte.branch [
      | then-b-phase_byte w ↦ rw (w.phase-is, w.heard-is) (hears-more h c.loop-b-test.true (w.if-b-phase_byte.true ∙ c.phase_byte.ensures))
      | else-b-phase_byte+else-b-gt1+else-not-within_tenth w ↦
          rw (w.phase-is, w.heard-is, w.next_phase-phase.ensures)
          (hears-next h c.loop-b-test.true (λ e. w.if-b-phase_byte.false (e ∙ sym c.phase_byte.ensures)) w.if-b-gt1.false (sym w.within_tenth.ensures ∙ w.if-not-within_tenth.false))
    ]

pub returns-then-phase-eq5 : goal.returns-then-phase-eq5
returns-then-phase-eq5 c =
    let e : c.loop-b.b-index ≡ length c.args.recording.now = omega arith in
    rw (← c.self.view_is)
    (c.within_tenth-then-phase-eq5.ensures ∙ sym (and-true _) ∙ (rw (eq-eqb _ _ c.if-phase-eq5.true) at (hears-end c.loop-b.invariant e)))

pub returns-else-phase-eq5 : goal.returns-else-phase-eq5
returns-else-phase-eq5 c =
    let e : c.loop-b.b-index ≡ length c.args.recording.now = omega arith in
    rw (← c.self.view_is, ne_eqb _ _ c.if-phase-eq5.false) (rw (ne_eqb _ _ c.if-phase-eq5.false, and-false) at (hears-end c.loop-b.invariant e))
