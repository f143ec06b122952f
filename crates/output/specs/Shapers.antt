-- The two shapers, from document 01, "Mixing, fade, duty". Assumes nothing.
use Rattle.std.specs.Prelude.{◌≤◌, nat_abs, cond, ℤ, pos, ◌+ℤ◌, ◌-ℤ◌, ◌*ℤ◌}
use Rattle.std.specs.Int.Signed.{lt_z, le_z}
use Rattle.laws.specs.Whole.{neg, floor_div, wrap32}
use Rattle.output.specs.declared.SigmaDelta.{SigmaDelta}
use Rattle.output.specs.declared.Shaped.{Shaped}
use Rattle.output.specs.declared.SigmaDelta2ndOrder.{SigmaDelta2ndOrder}

-- a new shaper, and one that is reset: the sum is 0
abbrev pub fresh : SigmaDelta
fresh = record { integrator = pos 0 }

-- "if not negative subtract 65,536 and give 127, else give −127 and add nothing back"
abbrev pub pulsed : ℤ → Shaped SigmaDelta
pulsed sum =
    cond (le_z (pos 0) sum)
    (record { shaper = record { integrator = sum -ℤ pos 65536 }; pcm = pos 127 })
    (record { shaper = record { integrator = sum }; pcm = neg 127 })

-- "First-order shaper: add 256s wrapping in 32 bits"
unfoldable pub shaped : SigmaDelta → ℤ → Shaped SigmaDelta
shaped d s = pulsed (wrap32 (d.integrator +ℤ s *ℤ pos 256))

abbrev pub fresh2nd_order : SigmaDelta2ndOrder
fresh2nd_order = record { e1 = pos 0; e2 = pos 0 }

-- "y1 = 32,767 if e1 is not negative, else −32,768"
unfoldable pub quantized : ℤ → ℤ
quantized e = cond (le_z (pos 0) e) (pos 32767) (neg 32768)

-- "out floor((y1 + y2) ÷ 512), at least −127", of the sum y
unfoldable pub pulse : ℤ → ℤ
pulse y = let out = floor_div y 512 in cond (lt_z out (neg 127)) (neg 127) out

-- "Second-order: e1 gains 256s, y1 = .., e1 loses y1; e2 gains e1 and gives y2 likewise"
unfoldable pub shaped2nd_order : SigmaDelta2ndOrder → ℤ → Shaped SigmaDelta2ndOrder
shaped2nd_order d s =
    let sum1 = d.e1 +ℤ s *ℤ pos 256 in
    let e1 = sum1 -ℤ quantized sum1 in
    let sum2 = d.e2 +ℤ e1 in
    let e2 = sum2 -ℤ quantized sum2 in
    record { shaper = record { e1 = e1; e2 = e2 }; pcm = pulse (quantized sum1 +ℤ quantized sum2) }

-- "Second-order errors both stay within −32,767..32,767." Tried as a model of the shaper: a `Copy` struct that holds one is not copied in a
-- proof when it is used again, so those of callers, which pass states by value, do not close.
pub record ValidShaper (d : SigmaDelta2ndOrder) : Type 0 where
  pub first : nat_abs d.e1 ≤ 32767
  pub second : nat_abs d.e2 ≤ 32767

abbrev pub ValidShaped : Shaped SigmaDelta2ndOrder → Type 0
ValidShaped r = ValidShaper r.shaper
