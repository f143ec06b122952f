-- What the play request leaves, and the line without it. Assumes nothing.
use Rattle.std.specs.Prelude.{Option, ℕ}
use mathlib.Core.Path.{◌≡◌, ap, ◌∙◌}
use Rattle.marks.specs.declared.Present.{Present}
use Rattle.requests.specs.declared.PresentPlayed.{PresentPlayed}
use Rattle.waiting.specs.declared.Line.{Line}
use Rattle.entering.specs.Lined.{lined}
use Rattle.entering.specs.Entering.{kept_after}
use Rattle.entering.proofs.tried.Goals as goal
use Rattle.error.specs.declared.AudioError.{AudioError}

same-lined : {p q : Present} {k j : Option (AudioError × ℕ)} {l m : Line} → p ≡ q → k ≡ j → l ≡ m → lined p k l ≡ lined q j m
same-lined e f g = rw (e, f, g)

pub returns : goal.returns
returns c =
    let q = c.play_request-q.ensures in
    let s = c.args in
    record {
      same = same-lined (ap (λ (x : PresentPlayed). x.present) q.same) (c.kept_after-kept.ensures ∙ ap (λ (x : PresentPlayed). kept_after x.outcome s.w.label s.s.kept) q.same) c.without-line.ensures.same;
      valid = record { present = q.valid; line = c.without-line.ensures.valid };
    }
