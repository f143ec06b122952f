-- The voice that starts, at the place that is allocated. Assumes nothing.
use Prim.Native.Nat.{◌<◌}
use mathlib.Core.Path.{sym, ap, ◌∙◌}
use Rattle.error.specs.Told.{told}
use Rattle.allocate.specs.Allocation.{told_place}
use Rattle.allocate.proofs.Choice.{allocated-below}
use Rattle.mixer.proofs.Laws.{valid-stored}
use Rattle.play.specs.Plays.{played}
use Rattle.play.proofs.play_request.Goals as goal

pub returns-in-Ok : goal.returns-in-Ok
unfolding played
returns-in-Ok c =
    let place = sym c.allocate_voice.ensures ∙ ap told_place c.in-Some.is in
    let there : c.in-Some.i < c.args.m.n = allocated-below c.args.m c.args.request.priority _ place in
    record {
      same = rw (place, sym c.start_request.ensures.same ∙ ap told c.in-Ok.is);
      valid = valid-stored _ _ c.requires there (rw c.in-Ok.is at c.start_request.ensures.valid);
    }
