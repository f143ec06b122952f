-- Phase by phase. Assumes nothing.
use mathlib.Core.Path.{refl, sym, ◌∙◌}
use native.Mathlib.Omega.{arith}
use Rattle.envelope.specs.declared.AdsrPhase.TheVariants as P
use Rattle.spans.proofs.Voices.{lasts-by, idle-lasts}
use Rattle.spans.proofs.voice_lasts.Goals as goal

pub overflow_sub-result : goal.overflow_sub-result
overflow_sub-result c = omega (arith, c.requires.adsr.counts (rw c.in-Release.is))

pub returns-in-Idle : goal.returns-in-Idle
returns-in-Idle c = c.source_lasts.ensures ∙ sym (idle-lasts c.args.v c.args.v.source c.in-Idle.is refl)

pub returns-in-Release : goal.returns-in-Release
returns-in-Release c = sym (lasts-by c.args.v P.Release c.in-Release.is)

pub returns-in-Attack : goal.returns-in-Attack
returns-in-Attack c = sym (lasts-by c.args.v P.Attack c.in-Attack.is)

pub returns-in-Decay : goal.returns-in-Decay
returns-in-Decay c = sym (lasts-by c.args.v P.Decay c.in-Decay.is)

pub returns-in-Sustain : goal.returns-in-Sustain
returns-in-Sustain c = sym (lasts-by c.args.v P.Sustain c.in-Sustain.is)
