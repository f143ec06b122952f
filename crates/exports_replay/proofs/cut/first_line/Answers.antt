-- `exports_replay::cut::first_line` meets its contract: the newline found is the first, or there is none.
use mathlib.Core.Path.{sym, ◌∙◌}
use Rattle.exports_replay.proofs.Cutting.{cut_found, cut-open}
use Rattle.exports_replay.proofs.cut.first_line.Goals as goal

pub returns-in-Some : goal.returns-in-Some
returns-in-Some c =
    let x = cut_found c.args.script.now c.in-Some.end (sym c.newline.ensures ∙ c.in-Some.is) in
    record { lines = x.0.0; onward = x.0.1; front = x.1.0; back = x.1.1 }

pub returns-in-None : goal.returns-in-None
returns-in-None c =
    let x = cut-open c.args.script.now c.requires (sym c.newline.ensures ∙ c.in-None.is) in
    record { lines = x.0.0; onward = x.0.1; front = x.1.0; back = x.1.1 }
