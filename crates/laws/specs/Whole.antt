-- Whole numbers as document 01 divides, holds and wraps them. Assumes nothing.
use Rattle.std.specs.Prelude.{ℕ, suc, ◌-◌, ◌/◌, ◌%◌, ◌^◌, cond, ℤ, pos, negsuc, neg_ℤ}
use Rattle.std.specs.Int.Signed.{lt_z, quot_z}
use Rattle.std.specs.Int.{w32}
use Rattle.std.proofs.Common.{to_z}

-- a negative number as the paper writes it: neg 127 is −127
abbrev pub neg : ℕ → ℤ
neg n = neg_ℤ (pos n)

-- "floored" means downward. negsuc a is −(a + 1), and ⌊−(a + 1) ÷ m⌋ = −(⌊a ÷ m⌋ + 1)
abbrev pub floor_div : ℤ → ℕ → ℤ
floor_div (pos a) m = pos (a / m)
floor_div (negsuc a) m = negsuc (a / m)

-- "truncated" means toward zero
abbrev pub trunc_div : ℤ → ℕ → ℤ
trunc_div z m = quot_z z (pos m)

-- z modulo m, in 0..m − 1
abbrev pub modulo : ℤ → ℕ → ℕ
modulo (pos a) m = a % m
modulo (negsuc a) m = m - suc (a % m)

-- z held to lo..hi
unfoldable pub held_to : ℤ → ℤ → ℤ → ℤ
held_to lo hi z = cond (lt_z z lo) lo (cond (lt_z hi z) hi z)

-- z wrapping in 32 bits: the number of −2^31..2^31 − 1 that is z modulo 2^32
unfoldable pub wrap32 : ℤ → ℤ
wrap32 z = to_z w32 (modulo z (2 ^ 32))
