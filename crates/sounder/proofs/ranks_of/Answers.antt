-- Each place's rank. Assumes nothing.
use mathlib.Core.Path.{◌≡◌, ◌∙◌, sym}
use native.Mathlib.Omega.{arith}
use mathlib.Core.List.{map}
use lib.ListN.{length, get_or}
use Rattle.marks.specs.Marks.{nothing}
use Rattle.marks.specs.declared.Mark.{Mark}
use Rattle.std.proofs.Common.{rules}
use Rattle.std.proofs.lemmas.List.{same_lists, get_or-map, length-map}
use Rattle.sounder.proofs.ranks_of.Goals as goal

pub returns : goal.returns
returns c =
    let items = c.map.ensures.items in
    let long : length c.args.marks ≡ 16 = omega (arith, c.well_formed) in
    same_lists c.map.result (map (λ (k : Mark). k.rank) c.args.marks) (items.long ∙ sym (length-map c.args.marks _ ∙ long))
    (λ k d h.
    let y = items.at k nothing d (omega (arith, h, items.long)) in
    let e : get_or c.map.result k d ≡ (get_or c.args.marks k nothing).rank = search rules in
    e ∙ sym (get_or-map (λ (k : Mark). k.rank) c.args.marks k nothing d (omega (arith, h, items.long, long))))
