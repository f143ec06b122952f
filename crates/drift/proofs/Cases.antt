-- What a sample costs, for a step below 1 ÷ 4, and for one from there up by whether it is an odd or an even number of 2^−25. Assumes nothing.
use mathlib.Core.Path.{◌≡◌, refl, sym, ap, ◌∙◌}
use mathlib.Core.Logic.{inl, inr}
use Prim.Native.Nat.{ℕ, ◌+◌, ◌-◌, ◌*◌, ◌^◌, ◌≤◌, ◌<◌}
use native.Mathlib.Nat.{lt_of_mul-lt-mul_right, le_of_mul-le-mul_right, mul-le-mul_right, lt_of_le_of_lt, le_of_eq}
use native.Mathlib.Omega.{arith}
use mathlib.Core.Bool.{Bool, true, false}
use lib.Dec.{T, leb→le}
use lib.Pow.{pow_pos}
use lib.Ieee.{Float, binary32, fits}
use lib.Ieee.Exact.{HasValue}
use Rattle.polyblep.specs.Oscillators.{completes}
use Rattle.drift.specs.Pitch.{Within}
use Rattle.drift.proofs.Values.{U, P, grains}
use Rattle.drift.proofs.Step.{moved}
use Rattle.drift.proofs.Prices.{Went, order, price-low, price-even, price-odd}
use Rattle.drift.proofs.Credit.{Paid}

-- ---- numbers
-- a multiple of q below another leaves room for q
gap : (t k u q : ℕ) → u ≡ t * q → u < k * q → u + q ≤ k * q
gap t k u q e h =
    let f : t < k = lt_of_mul-lt-mul_right q (lt_of_le_of_lt (le_of_eq (sym e)) h) in
    let m : (t + 1) * q ≤ k * q = mul-le-mul_right q (let i : t + 1 ≤ k = omega arith in i) in
    omega arith

-- an even and an odd multiple of q that differ by at most 2 × q differ by at most q
parity : (a b : ℕ) → Within 2 (a * 2) (b * 2 + 1) → Within 1 (a * 2) (b * 2 + 1)
parity a b w = let x = w.0 in let y = w.1 in (omega (arith, x), omega (arith, y))

odd-near : (a b q : ℕ) → 0 < q → Within (2 * q) (a * 2 * q) ((b * 2 + 1) * q) → Within q (a * 2 * q) ((b * 2 + 1) * q)
odd-near a b q Q w =
    let x : a * 2 * q ≤ (b * 2 + 1 + 2) * q = let i = w.0 in omega (arith, i) in
    let y : (b * 2 + 1) * q ≤ (a * 2 + 2) * q = let i = w.1 in omega (arith, i) in
    let z = parity a b (le_of_mul-le-mul_right x Q, le_of_mul-le-mul_right y Q) in
    let x' : a * 2 * q ≤ (b * 2 + 1 + 1) * q = mul-le-mul_right q z.0 in
    let y' : (b * 2 + 1) * q ≤ (a * 2 + 1) * q = mul-le-mul_right q z.1 in
    (omega (arith, x'), omega (arith, y'))

-- ---- a step below 1 ÷ 4; one from there up that is an even number of 2^−25; and one that is an odd number of them
abbrev pub Good : Float → ℕ → Type 0
Good x u = (u < U) × T (fits binary32 x)

-- an even number of 2^−25
abbrev Even : ℕ → Type 0
Even u = (k : ℕ) × (u ≡ k * (P * 4))

abbrev pub GoodEven : Float → ℕ → Type 0
GoodEven x u = (u < U) × T (fits binary32 x) × Even u

-- from 1 ÷ 2 up a phase is a multiple of 2^−24
half-even : (x : Float) (u : ℕ) → T (fits binary32 x) → HasValue x false u U → U ≤ u * 2 → Even u
half-even x u f q h = grains 1 (leb→le 1 3 tt) x u f q h

even_sum : (u v q : ℕ) → (i : ℕ) → (j : ℕ) → u ≡ i * q → v ≡ j * q → u + v ≡ (i + j) * q
even_sum u v q i j e f = omega arith

-- a multiple of 8 × p, less 1
less-one : (l p g w t : ℕ) → l ≡ 8388608 * (p * 8) → g ≡ l + w → g ≡ t * (p * 8) → w ≡ (t - 8388608) * 2 * (p * 4)
less-one l p g w t L e f =
    elim (order 8388608 t) [
      | inl k ↦ (let r = t - 8388608 in let i : t * (p * 8) ≡ (8388608 + r) * (p * 8) = ap (λ (z : ℕ). z * (p * 8)) (let j : t ≡ 8388608 + r = omega arith in j) in omega arith)
      | inr k ↦ (let i : (t + 1) * (p * 8) ≤ 8388608 * (p * 8) = mul-le-mul_right (p * 8) (let j : t + 1 ≤ 8388608 = omega arith in j) in let z : t - 8388608 ≡ 0 = omega arith in rw z (omega arith))
    ]

went-even : (t : Bool) (s g w : ℕ) → Went U P t s g w → (s < U → g ≡ s) → Even s → Even w
went-even true s g w h exact e = ((h.1.0 - 8388608) * 2, less-one U P g w h.1.0 refl h.0 h.1.1)
went-even false s g w h exact e = (e.0, sym h.0 ∙ exact h.1 ∙ e.1)

-- an even number of 2^−24, and an odd one of 2^−25, to the nearest 2^−23
odd-over : (u v g p i j k : ℕ) → 0 < p → u ≡ i * (p * 4) → v ≡ (k * 2 + 1) * (p * 2) → g ≡ j * (p * 8) → Within (p * 4) g (u + v) → Within (p * 2) g (u + v)
odd-over u v g p i j k K e f h n =
    let s : u + v ≡ ((i + k) * 2 + 1) * (p * 2) = omega arith in
    let z : g ≡ j * 2 * 2 * (p * 2) = omega arith in
    let x = n.0 in
    let y = n.1 in
    let r = odd-near (j * 2) (i + k) (p * 2) (omega arith) (omega (arith, x, s, z), omega (arith, y, s, z)) in
    let x' = r.0 in
    let y' = r.1 in
    (omega (arith, x', s, z), omega (arith, y', s, z))

upper : (u v l p : ℕ) → l ≡ 67108864 * p → v ≤ 33487324 * p → l ≤ u + v → l ≤ u * 2
upper u v l p L m h = omega arith

module _ (d : Float) (v : ℕ) (most : v ≤ 33487324 * P) (q : HasValue d false v U) where
  pub pay-low : v * 4 < U → (x : Float) (u : ℕ) → Good x u → HasValue x false u U → Paid Good (2 ^ 122 * 5) (2 ^ 122 * 3) 4 v x d u
  pay-low low x u h e =
      let m = moved x d u v h.0 most e q in
      let room : U ≤ u * 2 → u + P * 4 ≤ U = λ k. let r = half-even x u h.1 e k in gap r.0 16777216 u (P * 4) r.1 h.0 in
      let r = price-low U P u v m.sum m.next refl (pow_pos 123) h.0 most m.any m.one (2 ^ 122) refl low m.half room (completes x d) m.went in
      record {
        next = m.next;
        value = m.value;
        good = (r.below, m.fit);
        price = r;
      }

  pub pay-even : Even v → (x : Float) (u : ℕ) → GoodEven x u → HasValue x false u U → Paid GoodEven (P * 2) (P * 2) 2 v x d u
  pay-even even x u h e =
      let m = moved x d u v h.0 most e q in
      let k : Even (u + v) = (h.2.0 + even.0, even_sum u v (P * 4) h.2.0 even.0 h.2.1 even.1) in
      let exact = m.exact k.0 k.1 in
      let r = price-even U P u v m.sum m.next refl (pow_pos 123) h.0 most m.any m.one (completes x d) m.went exact in
      record {
        next = m.next;
        value = m.value;
        good = (r.below, m.fit, went-even (completes x d) (u + v) m.sum m.next m.went exact k);
        price = r;
      }

  pub pay-odd : (k : ℕ) → v ≡ (k * 2 + 1) * (P * 2) → (x : Float) (u : ℕ) → Good x u → HasValue x false u U → Paid Good (P * 2) 0 1 v x d u
  pay-odd k odd x u h e =
      let m = moved x d u v h.0 most e q in
      let r = price-odd U P u v m.sum m.next refl (pow_pos 123) h.0 most m.any m.one (completes x d) m.went (over (completes x d) m.sum m.next m.any m.one m.went) in
      record {
        next = m.next;
        value = m.value;
        good = (r.below, m.fit);
        price = r;
      }
    where
      over : (t : Bool) (g w : ℕ) → Within (P * 4) g (u + v) → (u + v < U → Within (P * 2) g (u + v)) → Went U P t (u + v) g w → U ≤ u + v → Within (P * 2) g (u + v)
      over true g w any one h' l =
          let i = half-even x u h.1 e (upper u v U P refl most l) in
          odd-over u v g P i.0 h'.1.0 k (pow_pos 123) i.1 odd h'.1.1 any
      over false g w any one h' l = one h'.1
