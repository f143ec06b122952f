-- `render::runs::line_done` is safe: a line sounds no more cells than there are.
use Rattle.std.proofs.Common.{arith, length, ◌≤◌}
use Rattle.std.proofs.lemmas.List.{length-take}
use Rattle.render_sounds.proofs.Laws.{few_cells}
use Rattle.render.proofs.runs.line_done.Goals as goal

pub shared_ref_as_front-heard : goal.shared_ref_as_front-heard
shared_ref_as_front-heard g c =
    let few = few_cells c.copied-before.result c.args.l.now in
    omega (arith, c.sound-n.ensures.count, few)

pub heard-requires : goal.heard-requires
heard-requires g c =
    let few = few_cells c.copied-before.result c.args.l.now in
    let part = length-take c.sound-n.result c.sound-n.new.out in
    omega (arith, c.sound-n.ensures.count, few, part)
