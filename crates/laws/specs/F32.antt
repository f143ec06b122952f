-- binary32 under short names. Every operation is the kit's IEEE 754, rounded to nearest, ties to even. Assumes nothing.
use Rattle.std.specs.Prelude.{ℕ, false, cond, Float}
use Rattle.std.specs.Float.Ieee as Ieee
use Rattle.std.specs.Float.{binary32}
use Rattle.std.specs.Float.Ieee.{round, lt}

infixl 6 ◌⊕◌ ◌⊖◌
infixl 7 ◌⊗◌ ◌⊘◌
abbrev pub ◌⊕◌ : Float → Float → Float
x ⊕ y = Ieee.add binary32 x y

abbrev pub ◌⊖◌ : Float → Float → Float
x ⊖ y = Ieee.sub binary32 x y

abbrev pub ◌⊗◌ : Float → Float → Float
x ⊗ y = Ieee.mul binary32 x y

abbrev pub ◌⊘◌ : Float → Float → Float
x ⊘ y = Ieee.div binary32 x y

-- the source's literal n ÷ d: the binary32 nearest to the fraction
abbrev pub lit : ℕ → ℕ → Float
lit n d = round binary32 false n d

-- x held to lo..hi as the source's `clamp` holds it; a NaN stays a NaN
unfoldable pub held_to_f : Float → Float → Float → Float
held_to_f lo hi x = cond (lt x lo) lo (cond (lt hi x) hi x)
