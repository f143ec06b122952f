-- `render_account::polybleped` meets its contract: piece after piece.
use Rattle.render_texts.proofs.Laws.{then}
use Rattle.render_account.specs.Account.{polyblep_text}
use Rattle.render_account.proofs.polybleped.Goals as goal

pub returns : goal.returns
unfolding polyblep_text
returns c =
    let name = rw (c.polyblep_waveform-waveform.ensures, c.byte_at.ensures) at c.polyblep_name-name.ensures in
    then (then (then (then c.at_time.ensures c.say.ensures) name) c.say-2.ensures) c.sounding.ensures
