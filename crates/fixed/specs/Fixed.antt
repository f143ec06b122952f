-- Phases, the sine, gain, interpolation, pan and the limiter, from document 01. Assumes nothing.
use Rattle.std.specs.Prelude.{ℕ, suc, ◌+◌, ◌-◌, ◌*◌, ◌/◌, ◌%◌, ◌^◌, Bool, cond, ℤ, pos, negsuc, ◌+ℤ◌, ◌-ℤ◌, ◌*ℤ◌, neg_ℤ, ◌==◌, nat_le, nat_lt}
use Rattle.laws.specs.Whole.{floor_div, trunc_div}
use Rattle.fixed.specs.declared.PanGains.{PanGains}

-- "Increment = floor(Hz × 2^32 ÷ rate) modulo 2^32, or 0 for rate 0."
abbrev pub increment : ℕ → ℕ → ℕ
increment hz rate = cond (rate == 0) 0 (hz * 2 ^ 32 / rate % 2 ^ 32)

-- "Phases are 32-bit and wrap; the top eight bits are the index into the wave."
abbrev pub index_of : ℕ → ℕ
index_of phase = phase / 2 ^ 24

-- "bits 16 to 23 of the .. phase"
abbrev pub fraction_of : ℕ → ℕ
fraction_of phase = phase / 2 ^ 16 % 256

-- "q = floor(y(255 − y) ÷ 256)"
abbrev pub arch : ℕ → ℕ
arch y = y * (255 - y) / 256

-- "Sine at index x: y = 2x below 128, else 2(255 − x); .. +q in the first half, −q in the second."
abbrev pub sine : ℕ → ℤ
sine x = cond (nat_lt x 128) (pos (arch (2 * x))) (neg_ℤ (pos (arch (2 * (255 - x)))))

-- "a + truncated((b − a) × t ÷ 256)": a crossfade by t, and the sample between neighbours a and b at fraction t
abbrev pub toward : ℤ → ℤ → ℕ → ℤ
toward a b t = a +ℤ trunc_div ((b -ℤ a) *ℤ pos t) 256

-- "Gain: floor(sample × gain ÷ 256)"
abbrev pub gained : ℤ → ℕ → ℤ
gained s g = floor_div (s *ℤ pos g) 256

-- A rule is what gain 255 stands for: itself in document 01 (false), and 256, the whole sample, in document 02 (true): "Gain 255 shall
-- hand the sample through; 0 to 254 are unchanged."
abbrev pub factor_of : Bool → ℕ → ℕ
factor_of whole g = cond (g == 255) (cond whole 256 255) g

-- a gain by a rule
abbrev pub gained_by : Bool → ℤ → ℕ → ℤ
gained_by whole s g = gained s (factor_of whole g)

-- "Pan gains, left and right: up to 128 (255, floor(pan × 255 ÷ 128)), above (floor((255 − pan) × 255 ÷ 127), 255)."
abbrev pub pan_gains : ℕ → PanGains
pan_gains pan =
    cond (nat_le pan 128)
    (record { left = 255; right = pan * 255 / 128 })
    (record { left = (255 - pan) * 255 / 127; right = 255 })

-- n up to 96 unchanged; above, with e = n − 96, "96 + floor(31e ÷ (e + 31))" where the room is 31
abbrev pub knee : ℕ → ℕ → ℕ
knee room n = let e = n - 96 in cond (nat_le n 96) n (96 + room * e / (e + room))

-- "Limiter: −96..96 unchanged; above, with e = sum − 96, 96 + floor(31e ÷ (e + 31)); below, with e = −sum − 96,
-- −96 − floor(32e ÷ (e + 32))." One knee for both signs.
abbrev pub limited : ℤ → ℤ
limited (pos n) = pos (knee 31 n)
limited (negsuc k) = neg_ℤ (pos (knee 32 (suc k)))
