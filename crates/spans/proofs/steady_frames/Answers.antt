-- The least of those passed and of those left is the least of all. Assumes nothing.
use mathlib.Core.Path.{◌∙◌}
use native.Mathlib.Omega.{arith}
use Rattle.mixer.specs.Mixers.{voices_of}
use Rattle.spans.proofs.Steady.{fade-most, least_start, least-turn, least-end}
use Rattle.spans.proofs.steady_frames.Goals as goal

pub loop-v-init : goal.loop-v-init
loop-v-init c =
    let m = c.args.m in
    (omega (arith, c.fade_lasts-least.ensures, fade-most m c.requires), rw c.fade_lasts-least.ensures (least_start m))

pub loop-v-preserved : goal.loop-v-preserved
loop-v-preserved c =
    let m = c.args.m in (
      omega (arith, c.min-least.ensures),
      rw (c.min-least.ensures, c.voice_lasts.ensures) (least-turn c.loop-v.v-index c.loop-v.least (voices_of m) _ c.loop-v-test.true ∙ c.loop-v.invariant.1),
    )

pub returns : goal.returns
returns c = least-end c.loop-v.v-index c.loop-v.least (voices_of c.args.m) c.loop-v-test.false c.loop-v.invariant.0 ∙ c.loop-v.invariant.1
