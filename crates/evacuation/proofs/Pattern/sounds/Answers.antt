-- `evacuation::Pattern::sounds` meets its contract: the sample sounds as its phase does.
use mathlib.Core.Path.{sym, ◌∙◌}
use Rattle.evacuation.proofs.Cycles.{stands-sounds}
use Rattle.evacuation.proofs.Pattern.sounds.Goals as goal

pub is_on-requires : goal.is_on-requires
is_on-requires c = c.place.ensures.phase

pub returns : goal.returns
returns c = c.is_on.ensures ∙ sym (stands-sounds c.place.ensures)
