-- `fixed::lerp_i8` meets its contract. Each value on the way fits, and the last lies between a and b.
use Rattle.std.proofs.Common.{◌≡◌, ◌∙◌, pos, w8, w32}
use mir.ValLaws.{to_z-of_z}
use Rattle.fixed.proofs.Laws.{Toward, toward-fits}
use Rattle.fixed.proofs.lerp_i8.Goals.{After-from-2}
use Rattle.fixed.proofs.lerp_i8.Goals as goal

-- the three values widened, and what fits on the way
record Way (c : After-from-2) : Type 0 where
  x : c.from-x.result ≡ c.args.a
  y : c.from.result ≡ c.args.b
  t : c.from-2.result ≡ pos c.args.frac
  fit : Toward c.args.a c.args.b c.args.frac

way_c : (c : After-from-2) → Way c
way_c c =
    record {
      x = c.from-x.ensures ∙ to_z-of_z w8 _ c.ranges.a;
      y = c.from.ensures ∙ to_z-of_z w8 _ c.ranges.b;
      t = c.from-2.ensures;
      fit = toward-fits _ _ _ c.ranges.a c.ranges.b c.ranges.frac;
    }

pub overflow_add-result : goal.overflow_add-result
overflow_add-result c =
    let w = way_c (goal.at.overflow_add-result c).After-from-2 in
    let f = w.fit in
    simp (w.x, w.y, w.t, to_z-of_z w32 _ f.from, to_z-of_z w32 _ f.to, to_z-of_z w32 _ f.part, to_z-of_z w32 _ f.dist, to_z-of_z w32 _ f.prod, to_z-of_z w32 _ f.quot) f.sum

pub overflow_cast-result : goal.overflow_cast-result
overflow_cast-result c =
    let w = way_c (goal.at.overflow_cast-result c).After-from-2 in
    let f = w.fit in
    simp (w.x, w.y, w.t, to_z-of_z w32 _ f.from, to_z-of_z w32 _ f.to, to_z-of_z w32 _ f.part, to_z-of_z w32 _ f.dist, to_z-of_z w32 _ f.prod, to_z-of_z w32 _ f.quot, to_z-of_z w32 _ f.sum) f.byte

pub returns : goal.returns
returns c =
    let w = way_c (goal.at.returns c).After-from-2 in
    let f = w.fit in
    simp (w.x, w.y, w.t, to_z-of_z w32 _ f.from, to_z-of_z w32 _ f.to, to_z-of_z w32 _ f.part, to_z-of_z w32 _ f.dist, to_z-of_z w32 _ f.prod, to_z-of_z w32 _ f.quot, to_z-of_z w32 _ f.sum, to_z-of_z w8 _ f.byte)
