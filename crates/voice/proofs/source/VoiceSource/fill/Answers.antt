-- `voice::source::VoiceSource::fill` meets its contract, case by case.
use Prim.Native.Nat.{min}
use Rattle.voice.specs.declared.source.VoiceSource.TheVariants as S
use Rattle.voice.proofs.Requests.{idle-inactive, quiet-block, tone-block, blep-block, fm-block}
use Rattle.voice.proofs.source.VoiceSource.fill.Goals as goal

pub returns-in-Idle : goal.returns-in-Idle
returns-in-Idle c = rw c.in-Idle.is (quiet-block (min c.args.len 256) S.Idle _ idle-inactive)

pub returns-in-Tone : goal.returns-in-Tone
returns-in-Tone c = rw c.in-Tone.is (tone-block c.fill-f.ensures.voice c.fill-f.ensures.given)

pub returns-in-PolyBlep : goal.returns-in-PolyBlep
returns-in-PolyBlep c = rw c.in-PolyBlep.is (blep-block c.fill-f-in-PolyBlep.ensures.voice.same c.fill-f-in-PolyBlep.ensures.given)

pub returns-in-Fm : goal.returns-in-Fm
returns-in-Fm c = rw c.in-Fm.is (fm-block c.fill-f-in-Fm.ensures.voice_value c.fill-f-in-Fm.ensures.filled)
