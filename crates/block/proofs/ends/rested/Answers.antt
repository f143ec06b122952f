-- `block::ends::rested` meets its contract: the voices one by one. The measure is the voices left.
use Prim.Native.Nat.{ℕ, ◌+◌, ◌≤◌, ◌<◌, min}
use native.Mathlib.Omega.{arith}
use mathlib.Core.Path.{◌≡◌, ap, ◌∙◌}
use lib.ListN.{length, get_or, set}
use Rattle.mixer.specs.declared.Mixer.{Mixer}
use Rattle.voice.specs.declared.Voice.{Voice}
use Rattle.frame.specs.Fades.{voice_at}
use Rattle.laws.specs.Runs.{after}
use Rattle.mixer.proofs.Laws.{valid-voice}
use Rattle.mixer.specs.Mixers.{with_voices}
use Rattle.voice.specs.Voices.{silent_voice, ticked_voice}
use Rattle.block.proofs.Parts.{others, others-at, others-next, others-none}
use Rattle.block.proofs.ends.rested.Goals.{In-loop-i}
use Rattle.block.proofs.ends.rested.Goals as goal

few : (c : In-loop-i) → c.loop-i.i < 16
few c = omega (arith, c.requires.0.few)

rested-turn : (out m : Mixer) (len i : ℕ) (d w : Voice) → 2 ≤ i
    → out ≡ with_voices m (others (after ticked_voice len) (voice_at m 0) (voice_at m 1) i m.voices) → w ≡ after ticked_voice len (get_or out.voices i d)
    → with_voices out (set out.voices i w) ≡ with_voices m (others (after ticked_voice len) (voice_at m 0) (voice_at m 1) (i + 1) m.voices)
rested-turn out m len i d w h e f =
    let g = after ticked_voice len in
    let a : w ≡ g (get_or (others g (voice_at m 0) (voice_at m 1) i m.voices) i d) = f ∙ ap (λ (x : Mixer). g (get_or x.voices i d)) e in
    rw e (ap (with_voices m) (others-next g (voice_at m 0) (voice_at m 1) i m.voices d w h a))

pub loop-i-init : goal.loop-i-init
loop-i-init c =
    let m = c.args.m in
    let two = c.requires.1 in
    let l : 2 ≤ length m.voices = omega (arith, c.requires.0.full) in
    (omega arith, omega arith, ap (with_voices m) (others-none (after ticked_voice c.args.len) m.voices (silent_voice 0) l))

pub rest-requires : goal.rest-requires
rest-requires c =
    let m = c.args.m in
    let f = after ticked_voice c.args.len in
    rw (c.loop-i.invariant.2, others-at f (voice_at m 0) (voice_at m 1) c.loop-i.i m.voices _ c.loop-i.invariant.0) (valid-voice c.loop-i.i _ c.requires.0 c.loop-i-test.true)

pub loop-i-preserved : goal.loop-i-preserved
loop-i-preserved c =
    let m = c.args.m in
    let len = c.args.len in
    let e : min len 256 ≡ len = omega (arith, c.requires.2) in (
      omega arith,
      omega arith,
      rested-turn c.loop-i.out m len c.loop-i.i _ _ c.loop-i.invariant.0 c.loop-i.invariant.2 (rw e at c.rest.ensures.same),
    )

pub returns : goal.returns
returns c =
    let m = c.args.m in
    let e : c.loop-i.i ≡ m.n = omega arith in
    rw e at c.loop-i.invariant.2
