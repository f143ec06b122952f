-- Those that pass the test, counted. Assumes nothing.
use mathlib.Core.Path.{◌∙◌, sym}
use Rattle.laws.proofs.Lists.{length-only}
use Rattle.mixer.specs.Mixers.{audible_count}
use Rattle.mixer.proofs.Mixer.active_voice_count.Goals as goal

pub returns : goal.returns
unfolding audible_count
returns c = c.audible_in.ensures ∙ sym (length-only _ _)
