-- A free voice, else by the policy. Assumes nothing.
use mathlib.Core.Path.{sym, ap, ◌∙◌}
use Rattle.allocate.specs.Allocation.{told_place}
use Rattle.allocate.proofs.Choice.{allocated-free, allocated-taken, allocated-none}
use Rattle.allocate.proofs.Searches.{free-position}
use Rattle.voice.specs.Voices.{audible}
use Rattle.mixer.specs.Mixers.{voices_of}
use Rattle.allocate.proofs.allocate_voice.Goals as goal

pub returns-in-Some : goal.returns-in-Some
returns-in-Some c = sym (allocated-free c.args.m c.args.priority _ (sym (free-position audible (voices_of c.args.m)) ∙ ap told_place (sym c.first_free.ensures) ∙ ap told_place c.in-Some.is))

pub returns-in-FreeChannelOnly : goal.returns-in-FreeChannelOnly
returns-in-FreeChannelOnly c =
    sym (allocated-none c.args.m c.args.priority (sym (free-position audible (voices_of c.args.m)) ∙ ap told_place (sym c.first_free.ensures) ∙ ap told_place c.in-None.is) c.in-FreeChannelOnly.is)

pub returns-in-LowestPriorityOldest : goal.returns-in-LowestPriorityOldest
returns-in-LowestPriorityOldest c =
    c.first_lowest.ensures
    ∙ sym (allocated-taken c.args.m c.args.priority (sym (free-position audible (voices_of c.args.m)) ∙ ap told_place (sym c.first_free.ensures) ∙ ap told_place c.in-None.is) c.in-LowestPriorityOldest.is)
