-- Duty and pan alone. Assumes nothing.
use Rattle.std.specs.Prelude.{ℕ, List, [], ◌∷◌, ℤ}
use Rattle.error.specs.Told.{Told, value, and_then}
use Rattle.fixed.specs.declared.PanGains.{PanGains}
use Rattle.output.specs.Duty.{duty, period_read}

-- "PWM period below 2 | 3"
abbrev pub duty_told : ℤ → ℕ → Told ℕ
duty_told s period = and_then (period_read period) (λ p. value (duty s p))

-- "Pan gains, left and right"
abbrev pub sides_of : PanGains → List ℕ
sides_of g = g.left ∷ g.right ∷ []
