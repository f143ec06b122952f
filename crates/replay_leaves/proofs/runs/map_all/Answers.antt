-- `replay_leaves::runs::map_all` meets its contract: what is left of the run, from each turn on, is the run.
use mathlib.Core.Path.{◌≡◌, sym, ap, ◌∙◌}
use Prim.Native.Nat.{ℕ, ◌+◌}
use native.Mathlib.Omega.{arith}
use mir.Syntax.{w8}
use Rattle.output.specs.Duty.{mapped}
use Rattle.output.specs.declared.Mapped.{Mapped}
use Rattle.replay_leaves.specs.Replies.{sample_at}
use Rattle.replay_leaves.specs.Runs.{map_step, duty_text}
use Rattle.hex_digits.proofs.Bits.{back}
use Rattle.replay_leaves.proofs.Going.{going_start, going-turn, going_end, stepped-none}
use Rattle.replay_leaves.proofs.runs.map_all.Goals as goal

pub loop-i-init : goal.loop-i-init
loop-i-init c = let a = c.args in (going_start (map_step a.l.now a.period) duty_text _ _ _ _, c.requires.valid, omega arith)

pub map-last-requires : goal.map-last-requires
map-last-requires c = c.loop-i.invariant.1

pub loop-i-preserved : goal.loop-i-preserved
loop-i-preserved c =
    let s = c.as_i8-sample in
    let h = c.loop-i in
    let a = c.args in
    let e : c.map-last.result ≡ mapped h.last.mapper (sample_at a.l.now (8 + h.i)) a.period =
    c.map-last.ensures.same ∙ rw (back w8 s.result s.type_inv, s.ensures, c.byte_at.ensures) in
    let n : 8 + (h.i + 1) ≡ 8 + h.i + 1 = omega arith in
    (rw n (going-turn (map_step a.l.now a.period) duty_text c.loop-i-test.true (ap (λ (r : Mapped). (8 + h.i + 1, r)) e) h.invariant.0 c.put-next.ensures.0), c.map-last.ensures.valid, omega (arith, h.invariant.2, c.put-next.ensures.1))

pub returns : goal.returns
returns c =
    let h = c.loop-i in
    let a = c.args in
    let z = c.loop-i-test.false in
    let step = map_step a.l.now a.period in
    record {
      laid = going_end step duty_text z h.invariant.0;
      next_bound = omega arith;
      made = record { same = ap (λ (s : ℕ × Mapped). s.1) (sym (stepped-none step a.count h.i (8 + h.i, h.last) z) ∙ h.invariant.0.same); valid = h.invariant.1 };
    }
