-- The corrections next to an edge, in the source's order of operations. Assumes nothing.
use Rattle.std.specs.Prelude.{cond, Float}
use Rattle.std.specs.Float.Ieee.{lt, le, neg}
use Rattle.laws.specs.F32.{◌⊕◌, ◌⊖◌, ◌⊗◌, ◌⊘◌, lit}

-- the step's correction at phase t: after the edge, before it, or none
unfoldable pub poly_blep : Float → Float → Float
poly_blep t dt =
    cond (le dt (lit 0 1)) (lit 0 1)
    (cond (lt t dt) (let u = t ⊘ dt in u ⊕ u ⊖ u ⊗ u ⊖ lit 1 1)
    (cond (lt (lit 1 1 ⊖ dt) t) (let u = (t ⊖ lit 1 1) ⊘ dt in u ⊗ u ⊕ u ⊕ u ⊕ lit 1 1)
    (lit 0 1)))

-- the slope's correction
unfoldable pub poly_blamp : Float → Float → Float
poly_blamp t dt =
    cond (le dt (lit 0 1)) (lit 0 1)
    (cond (lt t dt) (let u = t ⊘ dt ⊖ lit 1 1 in neg (u ⊗ u ⊗ u) ⊘ lit 3 1 ⊗ (lit 4 1 ⊗ dt))
    (cond (lt (lit 1 1 ⊖ dt) t) (let u = (t ⊖ lit 1 1) ⊘ dt ⊕ lit 1 1 in u ⊗ u ⊗ u ⊘ lit 3 1 ⊗ (lit 4 1 ⊗ dt))
    (lit 0 1)))
