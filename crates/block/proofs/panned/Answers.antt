-- `block::panned` meets its contract: the voices one by one, then each side. The measure is the voices left.
use Prim.Native.Nat.{ℕ, ◌≤◌, ◌<◌}
use native.Mathlib.Omega.{arith}
use mathlib.Core.Path.{◌≡◌, refl, sym}
use lib.ListN.{length}
use Rattle.frame.specs.Frames.{left_of, right_of}
use Rattle.laws.proofs.Made.{made}
use Rattle.laws.specs.Runs.{after}
use Rattle.mixer.proofs.Laws.{map-valid}
use Rattle.mixer.specs.Mixers.{with_voices}
use Rattle.mixer.specs.declared.Mixer.{Mixer}
use Rattle.frame.specs.Runs.{stereo_step}
use Rattle.voice.proofs.Runs.{valid-frames}
use Rattle.voice.specs.Blocks.{voice_step}
use Rattle.block.specs.Parts.{Slow, moved_on}
use Rattle.block.proofs.Cells.{written_as}
use Rattle.block.proofs.Frames.{run_all, side_at, after-stereo}
use Rattle.block.proofs.Gather.{summed-none, given-few, turn-voices, turn-left, turn-right, left-cell, right-cell}
use Rattle.block.proofs.Parts.{valid-stereos}
use Rattle.block.proofs.panned.Goals.{In-loop-i}
use Rattle.block.proofs.panned.Goals as goal

few : (c : In-loop-i) → c.loop-i.i < 16
few c = omega (arith, c.requires.0.few)

-- the state after all voices, and t
all_moved : (m mixed r : Mixer) (len i : ℕ) → i ≡ m.n → mixed ≡ with_voices m (run_all len i m.voices) → r ≡ moved_on mixed len → Slow m len → r ≡ after stereo_step len m
all_moved m mixed r len i e f g h = rw (g, f, e) (sym (after-stereo len m h))

pub loop-i-init : goal.loop-i-init
loop-i-init c =
    let m = c.args.m in
    (omega arith, refl, summed-none (side_at left_of c.args.marks) c.args.len m.voices, summed-none (side_at right_of c.args.marks) c.args.len m.voices)

pub run-r-requires : goal.run-r-requires
run-r-requires c =
    let v = c.requires.0 in
    map-valid (after voice_step c.args.len) (λ v k. valid-frames c.args.len v k) c.loop-i.mixed _ c.loop-i.i c.loop-i.i _ c.loop-i.invariant.1 v.each v.full (few (goal.at.run-r-requires c).In-loop-i)

pub add-requires : goal.add-requires
add-requires c =
    let t = c.loop-i.invariant.2 in
    let f = few (goal.at.add-requires c).In-loop-i in
    (c.gain_factor-gl.ensures.1, given-few _ c.args.len _ c.run-r.ensures.given, t.full, λ j. omega (arith, t.small j))

pub add-requires-in-loop-i : goal.add-requires-in-loop-i
add-requires-in-loop-i c =
    let t = c.loop-i.invariant.3 in
    let f = few (goal.at.add-requires-in-loop-i c).In-loop-i in
    (c.gain_factor-gr.ensures.1, given-few _ c.args.len _ c.run-r.ensures.given, t.full, λ j. omega (arith, t.small j))

pub loop-i-preserved : goal.loop-i-preserved
loop-i-preserved c =
    let b = c.run-r.ensures in
    let g = c.pan_to_gains_q8-g.ensures in
    let m = c.args.m in
    let r = c.args.marks in
    let v = c.requires.0 in
    let len = c.args.len in
    let l : len ≤ 256 = omega (arith, c.requires.1) in
    let h : c.loop-i.i < length m.voices = omega (arith, few (goal.at.loop-i-preserved c).In-loop-i, v.full) in
    let e = c.loop-i.invariant.1 in (
      omega arith,
      turn-voices m c.loop-i.mixed r len c.loop-i.i _ l h e b,
      turn-left m c.loop-i.mixed r len c.loop-i.i _ l h e b c.pan_to_gains_q8-g.result _ g c.gain_factor-gl.ensures.0 c.loop-i.invariant.2 c.add.ensures,
      turn-right m c.loop-i.mixed r len c.loop-i.i _ l h e b c.pan_to_gains_q8-g.result _ g c.gain_factor-gr.ensures.0 c.loop-i.invariant.3 c.add-in-loop-i.ensures,
    )

pub moved-requires : goal.moved-requires
moved-requires c =
    let v = c.requires in
    rw c.loop-i.invariant.1 (v.4, λ a. (v.0.fade a).1)

pub returns : goal.returns
returns c =
    let a = c.args in
    let v = c.requires in
    let e : c.loop-i.i ≡ a.m.n = omega (arith, c.loop-i-test.false, c.loop-i.invariant.0) in
    record {
      mixer = made (all_moved a.m c.loop-i.mixed _ a.len c.loop-i.i e c.loop-i.invariant.1 c.moved.ensures v.4) (valid-stereos a.len a.m v.0);
      left = written_as (left-cell a.m a.marks a.len a.at e c.gain_factor-gain.ensures.0 v.4 c.loop-i.invariant.2) c.write_means.ensures;
      right = written_as (right-cell a.m a.marks a.len a.at e c.gain_factor-gain.ensures.0 v.4 c.loop-i.invariant.3) c.write_means-2.ensures;
    }

pub write_means-requires : goal.write_means-requires
write_means-requires c = let v = c.requires in (v.1, v.2, c.gain_factor-gain.ensures.1)

pub write_means-requires-2 : goal.write_means-requires-2
write_means-requires-2 c = let v = c.requires in (v.1, v.3, c.gain_factor-gain.ensures.1)
