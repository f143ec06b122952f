-- `block::plain` meets its contract: the voices one by one, then the means. The measure is the voices left.
use Prim.Native.Nat.{ℕ, ◌≤◌, ◌<◌}
use native.Mathlib.Omega.{arith}
use mathlib.Core.Path.{◌≡◌, refl, sym, ap, ◌∙◌}
use lib.ListN.{length}
use Rattle.laws.proofs.Made.{made}
use Rattle.laws.specs.Runs.{after}
use Rattle.mixer.proofs.Laws.{map-valid}
use Rattle.mixer.specs.Mixers.{with_voices}
use Rattle.voice.proofs.Runs.{valid-frames}
use Rattle.voice.specs.Blocks.{voice_step}
use Rattle.block.proofs.Cells.{written_as}
use Rattle.block.proofs.Frames.{run_all, after-plain}
use Rattle.block.proofs.Gather.{mono_value, summed-none, counted_none, given-few, turn-voices, turn-summed, turn-counted, mono-cell}
use Rattle.block.proofs.Parts.{valid-monos}
use Rattle.block.proofs.plain.Goals.{In-loop-i}
use Rattle.block.proofs.plain.Goals as goal

few : (c : In-loop-i) → c.loop-i.i < 16
few c = omega (arith, c.requires.0.few)

pub loop-i-init : goal.loop-i-init
loop-i-init c =
    let m = c.args.m in (omega arith, refl, summed-none (mono_value c.args.marks) c.args.len m.voices, counted_none c.args.marks c.args.len m.voices)

pub run-r-requires : goal.run-r-requires
run-r-requires c =
    let v = c.requires.0 in
    map-valid (after voice_step c.args.len) (λ v k. valid-frames c.args.len v k) c.loop-i.mixed _ c.loop-i.i c.loop-i.i _ c.loop-i.invariant.1 v.each v.full (few (goal.at.run-r-requires c).In-loop-i)

pub add-requires : goal.add-requires
add-requires c =
    let t = c.loop-i.invariant.2 in
    let f = few (goal.at.add-requires c).In-loop-i in
    (omega arith, given-few _ c.args.len _ c.run-r.ensures.given, t.full, λ j. omega (arith, t.small j))

pub tally-requires : goal.tally-requires
tally-requires c =
    let t = c.loop-i.invariant.3 in
    let f = few (goal.at.tally-requires c).In-loop-i in
    (given-few _ c.args.len _ c.run-r.ensures.given, t.full, λ j. omega (arith, t.small j))

pub loop-i-preserved : goal.loop-i-preserved
loop-i-preserved c =
    let b = c.run-r.ensures in
    let m = c.args.m in
    let r = c.args.marks in
    let v = c.requires.0 in
    let l : c.args.len ≤ 256 = omega (arith, c.requires.2) in
    let h : c.loop-i.i < length m.voices = omega (arith, few (goal.at.loop-i-preserved c).In-loop-i, v.full) in (
      omega arith,
      turn-voices m c.loop-i.mixed r c.args.len c.loop-i.i _ l h c.loop-i.invariant.1 b,
      turn-summed m c.loop-i.mixed r c.args.len c.loop-i.i _ l h c.loop-i.invariant.1 b c.loop-i.invariant.2 c.add.ensures (λ k. refl),
      turn-counted m c.loop-i.mixed r c.args.len c.loop-i.i _ l h c.loop-i.invariant.1 b c.loop-i.invariant.3 c.tally.ensures,
    )

pub write_means-requires : goal.write_means-requires
write_means-requires c = (c.requires.2, c.requires.3, c.gain_factor-gain.ensures.1)

pub returns : goal.returns
returns c =
    let a = c.args in
    let q = c.requires.1 in
    let e : c.loop-i.i ≡ a.m.n = omega arith in
    record {
      mixer =
          made (c.loop-i.invariant.1 ∙ ap (λ (i : ℕ). with_voices a.m (run_all a.len i a.m.voices)) e ∙ sym (after-plain a.len a.m q))
          (valid-monos a.len a.m c.requires.0);
      cells = written_as (mono-cell a.m a.marks a.len a.at q e c.gain_factor-gain.ensures.0 c.loop-i.invariant.2 c.loop-i.invariant.3) c.write_means.ensures;
    }
