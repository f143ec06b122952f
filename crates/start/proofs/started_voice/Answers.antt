-- The silent voice with what is its own, triggered. Assumes nothing.
use Rattle.start.specs.Starts.{started_voice}
use Rattle.start.proofs.Laws.{valid-untriggered}
use Rattle.start.proofs.started_voice.Goals as goal

pub trigger_adsr-requires : goal.trigger_adsr-requires
trigger_adsr-requires c = valid-untriggered _ _ _ _ _ c.silent-silent.ensures c.requires.rate_bound c.requires.valid_source

pub returns : goal.returns
unfolding started_voice
returns c =
    let t = c.trigger_adsr.ensures in
    record { same = rw (t.same, c.silent-silent.ensures); valid = t.valid }
