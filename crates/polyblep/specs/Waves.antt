-- The four waveforms at a phase t and a step dt, in the source's order of operations. Assumes nothing.
use Rattle.std.specs.Prelude.{cond, Float}
use Rattle.std.specs.Float.Ieee.{lt, le, neg}
use Rattle.laws.specs.F32.{◌⊕◌, ◌⊖◌, ◌⊗◌, lit, held_to_f}
use Rattle.polyblep.specs.Blep.{poly_blep, poly_blamp}
use Rattle.polyblep.specs.Sine.{pi, sine_of}
use Rattle.polyblep.specs.declared.PolyBlepWaveform.{PolyBlepWaveform}
use Rattle.polyblep.specs.declared.PolyBlepWaveform.TheVariants as W

abbrev pub sine_part : Float → Float
sine_part t = sine_of (t ⊗ lit 2 1 ⊗ pi)

-- "Sawtooth subtracts its correction where the published method adds it for a falling saw; the Rust decides."
unfoldable pub sawtooth : Float → Float → Float
sawtooth t dt = lit 1 1 ⊖ lit 2 1 ⊗ t ⊖ poly_blep t dt

-- half a turn on
unfoldable pub half_turn : Float → Float
half_turn t = cond (le (lit 1 2) t) (t ⊖ lit 1 2) (t ⊕ lit 1 2)

-- 1 in the first half, −1 in the second, corrected at both edges
unfoldable pub square : Float → Float → Float
square t dt = cond (lt t (lit 1 2)) (lit 1 1) (neg (lit 1 1)) ⊕ poly_blep t dt ⊖ poly_blep (half_turn t) dt

-- up in the first half, down in the second, corrected at both turns
unfoldable pub triangle : Float → Float → Float
triangle t dt =
    cond (lt t (lit 1 2)) (lit 4 1 ⊗ t ⊖ lit 1 1) (lit 3 1 ⊖ lit 4 1 ⊗ t) ⊖ poly_blamp t dt ⊕ poly_blamp (half_turn t) dt

unfoldable pub shape : PolyBlepWaveform → Float → Float → Float
shape W.Sine t dt = sine_part t
shape W.Sawtooth t dt = sawtooth t dt
shape W.Square t dt = square t dt
shape W.Triangle t dt = triangle t dt

-- the waveform held to −1..1
unfoldable pub sample_at : PolyBlepWaveform → Float → Float → Float
sample_at w t dt = held_to_f (neg (lit 1 1)) (lit 1 1) (shape w t dt)
