-- Laws of the definitions, by which callers and proofs bound what they give. Assumes nothing.
use mathlib.Core.Path.{◌≡◌, refl, ap}
use Prim.Native.Nat.{ℕ, zero, suc, ◌-◌, ◌*◌, ◌/◌, ◌^◌, ◌≤◌, ◌<◌}
use native.Mathlib.Nat.{le_trans, lt_of_lt_of_le, mul-le-mul_right}
use native.Mathlib.Omega.{arith}
use borrow.Author.Tests.{le-ltb}
use lib.Dec.{T, leb, ltb, leb→le, ltb→lt, leb-zero}
use lib.IntN.{ℤ, pos, negsuc, nat_abs, neg_ℤ, ◌+ℤ◌, ◌-ℤ◌, ◌*ℤ◌}
use lib.Signed.{◌≤ℤ◌, mag, quot_z}
use mir.Syntax.{Width, w8, w16, w32}
use mir.Val.{Fits, SFits, hbits, to_z}
use mir.Facts.{sfits_widen}
use Rattle.std.specs.Int.{int_wrap, int_max, int_min}
use Rattle.std.proofs.lemmas.Int.{ints, SFits-int_wrap}
use Rattle.laws.specs.Whole.{held_to, wrap32}
use Rattle.laws.proofs.Held.{Between, held-between}
use Rattle.laws.proofs.Signed.{mag≤abs, mag-add, sub-size, abs≤, abs-fits, abs-quot, add≤, sub≤, mul≤}
use Rattle.output.specs.Shapers.{quantized, shaped2nd_order, fresh2nd_order, ValidShaper}
use Rattle.error.specs.Told.{value}
use Rattle.output.specs.Duty.{duty, period_read, mapped_by, mapped}
use Rattle.output.specs.declared.DutyMode.{DutyMode}
use Rattle.output.specs.declared.DutyMode.TheVariants as M
use Rattle.output.specs.declared.PwmMapper.{PwmMapper}
use Rattle.output.specs.declared.SigmaDelta2ndOrder.{SigmaDelta2ndOrder}
use Rattle.output.specs.Duty.{ValidMapper}

-- a sample times m
mag-neg : (n m : ℕ) → n ≤ suc m → mag (neg_ℤ (pos n)) ≤ m
mag-neg zero m h = omega arith
mag-neg (suc n) m h = omega arith

scaled : (s : ℤ) (m : ℕ) → 0 < m → mag s ≤ 127 → mag (s *ℤ pos m) < 128 * m
scaled (pos n) m p h = let l : n * m ≤ 127 * m = mul-le-mul_right m h in omega arith
scaled (negsuc k) m p h =
    let l : suc k * m ≤ 128 * m = mul-le-mul_right m (omega arith) in
    let g : mag (neg_ℤ (pos (suc k * m))) ≤ 128 * m - 1 = mag-neg (suc k * m) (128 * m - 1) (omega arith) in
    omega arith

pub record Scaled (w : Width) (s : ℤ) (m : ℕ) : Type 0 where
  pub wide : SFits w s
  pub size : mag (s *ℤ pos m) < 128 * m
  pub prod : SFits w (s *ℤ pos m)

-- `scaled_fits 256 f tt tt tt`
pub scaled_fits : {w : Width} {s : ℤ} (m : ℕ) → SFits w8 s → T (leb 7 (hbits w)) → T (ltb 0 m) → T (leb (128 * m) (2 ^ hbits w)) → Scaled w s m
scaled_fits {w} {s} m f v p t =
    let l : mag (s *ℤ pos m) < 128 * m = scaled s m (ltb→lt 0 m p) (omega arith) in
    record { wide = sfits_widen v f; size = l; prod = record { sfits = lt_of_lt_of_le l (leb→le _ _ t) } }

-- what an error within −32,767..32,767 gains and loses leaves it there
pub level-rest : (e : ℤ) → mag e ≤ 65534 → nat_abs (e -ℤ quantized e) ≤ 32767
unfolding quantized
level-rest (pos n) h = rw (leb-zero n) (sub-size n 32767 32767 (omega arith) (omega arith))
level-rest (negsuc k) h = sub-size 32768 (suc k) 32767 (omega arith) (omega arith)

stage-error : (e x : ℤ) → nat_abs e ≤ 32767 → mag x ≤ 32767 → nat_abs (e +ℤ x -ℤ quantized (e +ℤ x)) ≤ 32767
stage-error e x h k = level-rest (e +ℤ x) (mag-add e x 32767 32767 h k)

pub valid-fresh : ValidShaper fresh2nd_order
valid-fresh = record { first = omega arith; second = omega arith }

-- each sample keeps the errors in range, so from a new shaper on they stay there for ever
pub valid-shaped : (d : SigmaDelta2ndOrder) (s : ℤ) → ValidShaper d → SFits w8 s → ValidShaper (shaped2nd_order d s).shaper
unfolding shaped2nd_order
valid-shaped d s h f =
    let p : Scaled w32 s 256 = scaled_fits 256 f tt tt tt in
    let sum = d.e1 +ℤ s *ℤ pos 256 in
    let a = stage-error d.e1 (s *ℤ pos 256) h.first (omega (arith, p.size)) in
    record { first = a; second = stage-error d.e2 (sum -ℤ quantized sum) h.second (le_trans (mag≤abs (sum -ℤ quantized sum)) a) }

-- each value on the way to a duty fits, and the last lies within 1..period − 1
abbrev offset : ℤ → ℕ → ℤ
offset s p = quot_z (s *ℤ (pos (p / 2) -ℤ pos 1)) (pos 127)

pub record Dutied (s : ℤ) (p : ℕ) : Type 0 where
  pub wide : SFits w32 s
  pub whole : SFits w32 (pos p)
  pub half : SFits w32 (pos (p / 2))
  pub less : SFits w32 (pos (p / 2) -ℤ pos 1)
  pub prod : SFits w32 (s *ℤ (pos (p / 2) -ℤ pos 1))
  pub quot : SFits w32 (offset s p)
  pub sum : SFits w32 (pos (p / 2) +ℤ offset s p)
  pub top : SFits w32 (pos (p - 1))

pub duty-fits : (s : ℤ) (p : ℕ) → SFits w8 s → Fits w16 p → Dutied s p
duty-fits s p fs fp =
    let l : nat_abs (pos (p / 2) -ℤ pos 1) ≤ 32769 = sub≤ (pos (p / 2)) (pos 1) 32768 1 (omega arith) (omega arith) in
    let m : nat_abs (s *ℤ (pos (p / 2) -ℤ pos 1)) ≤ 4194432 = mul≤ s _ 128 32769 (abs≤ fs) l in
    let q : nat_abs (offset s p) ≤ 33027 = rw abs-quot (omega arith) in
    record {
      wide = sfits_widen tt fs;
      whole = record { sfits = omega arith };
      half = record { sfits = omega arith };
      less = abs-fits 32769 l tt;
      prod = abs-fits 4194432 m tt;
      quot = abs-fits 33027 q tt;
      sum = abs-fits 65795 (add≤ (pos (p / 2)) (offset s p) 32768 33027 (omega arith) q) tt;
      top = record { sfits = omega arith };
    }

pub duty-between : (s : ℤ) (p : ℕ) → 2 ≤ p → Between 1 (p - 1) (held_to (pos 1) (pos (p - 1)) (pos (p / 2) +ℤ offset s p))
duty-between s p h = held-between 1 (p - 1) _ (omega arith)

-- a period of at least 2 is accepted
pub period-accepted : (n : ℕ) → 2 ≤ n → period_read n ≡ value n
period-accepted n h = rw (le-ltb n 2 h)

pub duty-least : (s : ℤ) (p : ℕ) → 2 ≤ p → 1 ≤ duty s p
unfolding duty
duty-least s p h = (duty-between s p h).least

pub duty-most : (s : ℤ) (p : ℕ) → 2 ≤ p → duty s p ≤ p - 1
unfolding duty
duty-most s p h = (duty-between s p h).most

-- "period 2: always 1"
pub duty-of-2 : (s : ℤ) → duty s 2 ≡ 1
duty-of-2 s = omega (arith, duty-least s 2 (omega arith), duty-most s 2 (omega arith))

pub valid-mapped : (m : PwmMapper) (s : ℤ) (p : ℕ) → ValidMapper m → SFits w8 s → ValidMapper (mapped m s p).mapper
unfolding mapped
valid-mapped m s p h f = by_mode m.mode
  where
    by_mode : (mode : DutyMode) → ValidMapper (mapped_by mode m s p).mapper
    by_mode M.Linear = h
    by_mode M.SigmaDelta = h
    by_mode M.SigmaDelta2ndOrder = valid-shaped m.sigma_delta_2nd s h f

-- what the standard library's wrapping and holding give is document 01's
pub int_wrap-wrap32 : (z : ℤ) → int_wrap w32 z ≡ wrap32 z
unfolding int_wrap wrap32
int_wrap-wrap32 (pos n) = refl
int_wrap-wrap32 (negsuc k) = ap (to_z w32) (omega arith)

pub wrap32-fits : (z : ℤ) → SFits w32 (wrap32 z)
wrap32-fits z = rw (← int_wrap-wrap32 z) (SFits-int_wrap w32 z)

pub clamp-held_to : (lo hi z : ℤ) → lo ≤ℤ hi → int_max lo (int_min z hi) ≡ held_to lo hi z
unfolding held_to
clamp-held_to lo hi z h = grind (arith, ints)
