-- The voices one by one, after the rest. Assumes nothing.
use Rattle.std.proofs.Common.{arith, refl, ◌≡◌, ◌<◌, length, take}
use lib.Seq.{length-take-le}
use Rattle.laws.specs.Lists.{map_first}
use Rattle.laws.proofs.Lists.{map_first-step, all-map_first, length-map_first}
use Rattle.laws.proofs.Lists as Lists
use Rattle.laws.proofs.Made.{made}
use Rattle.voice.specs.Voices as V
use Rattle.voice.specs.Voices.{stopped_voice}
use Rattle.voice.proofs.Laws as L
use Rattle.mixer.specs.Mixers.{stopped}
use Rattle.mixer.proofs.Laws.{valid-stopped, all-front, first-front}
use Rattle.mixer.proofs.Mixer.stop_all.Goals as goal

pub stop_immediate-requires : goal.stop_immediate-requires
stop_immediate-requires c =
    let m = c.args.self in
    let l = c.loop-voice in
    let front = take m.n m.voices in
    let valid = all-map_first V.Valid stopped_voice (λ v k. L.valid-stopped {v = v} k) l.voice-index front (all-front V.Valid m.n m.voices c.requires.each) in
    rw l.invariant (Lists.all-get V.Valid (map_first stopped_voice l.voice-index front) l.voice-index _ valid (omega (arith, length-map_first stopped_voice l.voice-index front, c.loop-voice-test.true)))

pub loop-voice-preserved : goal.loop-voice-preserved
loop-voice-preserved c = rw (c.stop_immediate.ensures.same, c.loop-voice.invariant) (map_first-step stopped_voice _ _ c.loop-voice.voice-index)

pub returns : goal.returns
unfolding stopped
returns c =
    let m = c.args.self in
    let n = length-take-le m.n m.voices (omega (arith, c.requires.few, c.requires.full)) in
    let e : c.loop-voice.voice-index ≡ m.n = omega (arith, n, c.loop-voice.auto.voice-index-end, c.loop-voice-test.false) in
    let w : c.loop-voice.voice-items ≡ map_first stopped_voice m.n (take m.n m.voices) = rw e at c.loop-voice.invariant in
    made (rw (c.reset.ensures.same, w, first-front stopped_voice m.n m.voices) refl) (valid-stopped c.requires)
