-- `replay_leaves::voices::voice_at` meets its contract: gain and pan keep a voice valid.
use mathlib.Core.Path.{sym}
use Rattle.voice.proofs.Laws.{valid-silent}
use Rattle.voice.specs.Voices.{with_gain, with_pan}
use Rattle.replay_leaves.specs.Voices.{voice_at}
use Rattle.replay_leaves.proofs.voices.voice_at.Goals as goal

pub trigger_adsr-requires : goal.trigger_adsr-requires
unfolding with_gain with_pan
trigger_adsr-requires c =
    let s = valid-silent (rw (sym c.long_at.ensures) at c.requires) in rw (c.set_pan_q8-panned.ensures, c.set_gain_q8-gained.ensures, c.silent-silent.ensures) (record { rate = s.rate; source = c.source_at-source.ensures.valid; adsr = s.adsr })

pub returns : goal.returns
unfolding voice_at
returns c =
    rw (sym c.long_at.ensures, sym c.silent-silent.ensures, sym c.source_at-source.ensures.same, sym c.byte_at.ensures, sym c.set_gain_q8-gained.ensures, sym c.byte_at-2.ensures, sym c.set_pan_q8-panned.ensures, sym c.spec_at.ensures) c.trigger_adsr.ensures
