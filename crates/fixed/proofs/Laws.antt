-- Laws of the definitions, by which callers and proofs bound what they give. Assumes nothing.
use Rattle.std.proofs.Common.{◌≡◌, ℕ, zero, suc, ◌+◌, ◌*◌, ◌/◌, ◌<◌, ◌≤◌, Bool, true, false, cond, eqb, ℤ, pos, negsuc, ◌+ℤ◌, ◌-ℤ◌, ◌*ℤ◌, neg_ℤ, nat_abs, sym, refl, ap, le_trans, le_of_eq, mul_comm, div-lt_iff_lt-mul, mul-le-mul, mul-le-mul_left, le-div_iff_mul-le, mul-div_cancel, arith, w8, w16, w32, Fits, SFits, ne_eqb, eqb-true}
use native.Mathlib.Nat.{div-le_of_le-mul}
use lib.IntN.{+ℤ_comm, +ℤ_idr, -ℤ-+ℤ_cancel}
use lib.Signed.{quot_z, shr_z}
use mir.Syntax.{Width}
use mir.Facts.{sfits_widen}
use Rattle.laws.proofs.Signed.{abs≤, abs-fits, abs-quot, mul≤, sub≤, mag_shr, neg-fits, sub-fits, sub-bounds, neg-quot}
use Rattle.fixed.specs.Fixed.{toward, gained, factor_of, gained_by}

-- k of n steps up from a, or down from a, stay within what a and the whole way fit
module _ {w : Width} where
  up : (a : ℤ) (k n : ℕ) → k ≤ n → SFits w a → SFits w (a +ℤ pos n) → SFits w (a +ℤ pos k)
  up (pos x) k n h f g = record { sfits = omega arith }
  up (negsuc x) k n h f g = let b = sub-bounds n (suc x) g in sub-fits k (suc x) (omega arith) (omega arith)

  down : (a : ℤ) (k n : ℕ) → k ≤ n → SFits w a → SFits w (a +ℤ neg_ℤ (pos n)) → SFits w (a +ℤ neg_ℤ (pos k))
  down a zero n h f g = rw (+ℤ_idr a) f
  down (pos x) (suc k) (suc n) h f g = let b = sub-bounds x (suc n) g in sub-fits x (suc k) (omega arith) (omega arith)
  down (negsuc x) (suc k) (suc n) h f g = record { sfits = omega arith }
  down (pos x) (suc k) zero h f g = elim h [ ]
  down (negsuc x) (suc k) zero h f g = elim h [ ]

part≤ : (n t m : ℕ) → t ≤ m → 0 < m → n * t / m ≤ n
part≤ n t m h p = div-le_of_le-mul m (le_trans (mul-le-mul_left n h) (le_of_eq (mul_comm n m)))

-- t of m parts of the way d from a stay within what a and a + d fit
way : {w : Width} (a d : ℤ) (t m : ℕ) → t ≤ m → 0 < m → SFits w a → SFits w (a +ℤ d) → SFits w (a +ℤ quot_z (d *ℤ pos t) (pos m))
way a (pos n) t m h p f g = up a (n * t / m) n (part≤ n t m h p) f g
way a (negsuc n) t m h p f g = rw (neg-quot (suc n * t) m) (down a (suc n * t / m) (suc n) (part≤ (suc n) t m h p) f g)

-- each value on the way from a toward b fits, and the last is a sample
pub record Toward (a b : ℤ) (t : ℕ) : Type 0 where
  pub from : SFits w32 a
  pub to : SFits w32 b
  pub dist : SFits w32 (b -ℤ a)
  pub part : SFits w32 (pos t)
  pub prod : SFits w32 ((b -ℤ a) *ℤ pos t)
  pub quot : SFits w32 (quot_z ((b -ℤ a) *ℤ pos t) (pos 256))
  pub sum : SFits w32 (toward a b t)
  pub byte : SFits w8 (toward a b t)

pub toward-fits : (a b : ℤ) (t : ℕ) → SFits w8 a → SFits w8 b → Fits w8 t → Toward a b t
toward-fits a b t fa fb ft =
    let d : nat_abs (b -ℤ a) ≤ 256 = sub≤ b a 128 128 (abs≤ fb) (abs≤ fa) in
    let p : nat_abs ((b -ℤ a) *ℤ pos t) ≤ 65280 = mul≤ (b -ℤ a) (pos t) 256 255 d (omega arith) in
    let q : nat_abs (quot_z ((b -ℤ a) *ℤ pos t) (pos 256)) ≤ 255 = rw abs-quot (omega arith) in
    let r : SFits w8 (toward a b t) = way a (b -ℤ a) t 256 (omega arith) (omega arith) fa (rw (+ℤ_comm a (b -ℤ a), -ℤ-+ℤ_cancel b a) fb) in
    record {
      from = sfits_widen tt fa;
      to = sfits_widen tt fb;
      dist = abs-fits 256 d tt;
      part = record { sfits = omega arith };
      prod = abs-fits 65280 p tt;
      quot = abs-fits 255 q tt;
      sum = sfits_widen tt r;
      byte = r;
    }

-- each value on the way of a gain fits, and the last is a sample
pub record Gained (s : ℤ) (g : ℕ) : Type 0 where
  pub wide : SFits w16 s
  pub gain : SFits w16 (pos g)
  pub prod : SFits w16 (s *ℤ pos g)
  pub down : SFits w16 (shr_z (s *ℤ pos g) 256)
  pub byte : SFits w8 (shr_z (s *ℤ pos g) 256)
  pub small : nat_abs (shr_z (s *ℤ pos g) 256) ≤ 128

product-fits : (s : ℤ) (g : ℕ) → SFits w8 s → g ≤ 256 → SFits w16 (s *ℤ pos g)
product-fits (pos n) g f h = record { sfits = omega (arith, mul-le-mul {n₁ = n} {m₁ = g} {n₂ = 127} {m₂ = 256} (omega (arith, f.sfits)) h) }
product-fits (negsuc n) g f h = neg-fits {n = suc n * g} {h = 32768} (mul-le-mul {n₁ = suc n} {m₁ = g} {n₂ = 128} {m₂ = 256} (omega (arith, f.sfits)) h) tt

-- up to 256 parts of 256
pub gained-fits : (s : ℤ) (g : ℕ) → SFits w8 s → g ≤ 256 → Gained s g
gained-fits s g f h =
    let p = product-fits s g f h in
    let r : SFits w8 (shr_z (s *ℤ pos g) 256) = record { sfits = omega (arith, mag_shr (s *ℤ pos g) 256, p.sfits) } in
    record { wide = sfits_widen tt f; gain = record { sfits = omega arith }; prod = p; down = sfits_widen tt r; byte = r; small = abs≤ r }

-- ---- the two rules of gain 255
-- document 01's is the gain itself
pub factor-old : (g : ℕ) → factor_of false g ≡ g
factor-old g = by-test (eqb g 255) refl
  where
    by-test : (t : Bool) → eqb g 255 ≡ t → cond t 255 g ≡ g
    by-test true e = sym (eqb-true g 255 e)
    by-test false e = refl

pub gained-old : (s : ℤ) (g : ℕ) → gained_by false s g ≡ gained s g
gained-old s g = ap (gained s) (factor-old g)

-- "0 to 254 are unchanged", under either
pub factor-below : (whole : Bool) (g : ℕ) → g ≤ 254 → factor_of whole g ≡ g
factor-below whole g h = rw (ne_eqb g 255 (λ e. omega arith))

-- a factor is at most the whole
pub factor-most : (whole : Bool) (g : ℕ) → g ≤ 255 → factor_of whole g ≤ 256
factor-most whole g h = by-test (eqb g 255) whole
  where
    by-test : (t w : Bool) → cond t (cond w 256 255) g ≤ 256
    by-test true true = omega arith
    by-test true false = omega arith
    by-test false w = omega arith

-- 256 parts of 256 are the sample
pub gained-whole : (s : ℤ) → gained s 256 ≡ s
gained-whole (pos n) = ap pos (mul-div_cancel n (omega arith))
gained-whole (negsuc n) = let e : suc n * 256 ≡ suc (n * 256 + 255) = omega arith in rw e (ap negsuc (omega arith))

-- document 02's T-03: "Gain 255 shall hand the sample through", and "0 to 254 are unchanged"
pub through : (s : ℤ) → gained_by true s 255 ≡ s
through s = gained-whole s

pub unchanged : (whole : Bool) (s : ℤ) (g : ℕ) → g ≤ 254 → gained_by whole s g ≡ gained s g
unchanged whole s g h = ap (gained s) (factor-below whole g h)

-- What any gain makes of a sample is never larger in size and never of the other sign; the floor makes a negative one 0 by gain 0 alone.
pub brought-down : (n g : ℕ) → g ≤ 256 → (k : ℕ) × (gained (pos n) g ≡ pos k) × (k ≤ n)
brought-down n g h = (n * g / 256, refl, part≤ n g 256 h (omega arith))

pub brought-up : (n g : ℕ) → 0 < g → g ≤ 256 → (k : ℕ) × (gained (negsuc n) g ≡ negsuc k) × (k ≤ n)
brought-up n (suc g) p h =
    let most : n * suc g ≤ n * 256 = mul-le-mul_left n h in
    let under : (g + n * suc g) / 256 < suc n = (div-lt_iff_lt-mul {k = 256} {x = g + n * suc g} {y = suc n} (omega arith)).1 (omega arith) in
    let same : suc n * suc g ≡ suc (g + n * suc g) = omega arith in
    ((g + n * suc g) / 256, rw same refl, omega arith)
brought-up n zero p h = elim p [ ]

pub silenced : (s : ℤ) → gained s 0 ≡ pos 0
silenced (pos n) = ap pos (omega arith)
silenced (negsuc n) = let none : suc n * 0 ≡ 0 = omega arith in rw none

-- past an excess of room(room − 1) the knee's quotient is room − 1
pub knee-top : (r e : ℕ) → suc r * r ≤ e → suc r * e / (e + suc r) ≡ r
knee-top r e h =
    let above : suc r * e / (e + suc r) < suc r = (div-lt_iff_lt-mul {k = e + suc r} {x = suc r * e} {y = suc r} (omega arith)).1 (omega arith) in
    let under : r ≤ suc r * e / (e + suc r) = (le-div_iff_mul-le {k = e + suc r} {x = r} {y = suc r * e} (omega arith)).1 (omega arith) in
    omega arith
