-- A duration's samples at document 01's rates. Assumes nothing.
use mathlib.Core.Path.{◌≡◌}
use Prim.Native.Nat.{ℕ, ◌*◌, ◌≤◌, ◌<◌}
use native.Mathlib.Nat.{mul-le-mul, mod-eq_of_lt}
use native.Mathlib.Omega.{arith}
use Rattle.laws.specs.Durations.{samples_of, samples_wrapped}

-- a product of 16 bits and such a rate is below 2^32: 65,535 × 65,537 is 2^32 − 1
pub product-fits : (ms rate : ℕ) → ms ≤ 65535 → rate ≤ 65537 → ms * rate < 4294967296
product-fits ms rate h k = let p : ms * rate ≤ 65535 * 65537 = mul-le-mul h k in omega arith

pub samples-wrapped : (ms rate : ℕ) → ms ≤ 65535 → rate ≤ 65537 → samples_wrapped ms rate ≡ samples_of ms rate
samples-wrapped ms rate h k = rw (mod-eq_of_lt (product-fits ms rate h k))
