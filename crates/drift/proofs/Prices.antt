-- What a sample costs, in numbers: l is 1 and p 2^−26, in any units, u the phase before it, v the step, g their rounded sum and w the phase after it.
-- Assumes nothing.
use mathlib.Core.Path.{◌≡◌}
use mathlib.Core.Logic.{◌⊎◌, inl, inr}
use Prim.Native.Nat.{ℕ, ◌+◌, ◌*◌, ◌≤◌, ◌<◌}
use native.Mathlib.Omega.{arith}
use mathlib.Core.Bool.{Bool, true, false, not, cond}
use lib.Dec.{T, leb, leb→le, nleb→lt}
use Rattle.drift.specs.Pitch.{Within}

-- a number is at most another, or above it
pub order : (a b : ℕ) → (a ≤ b) ⊎ (b < a)
order a b = go (leb a b) (leb→le a b) (nleb→lt a b)
  where
    go : (t : Bool) → (T t → a ≤ b) → (T (not t) → b < a) → (a ≤ b) ⊎ (b < a)
    go true h k = inl (h tt)
    go false h k = inr (k tt)

-- the rounded sum g of s, and the phase w after it, where a turn is completed or not
abbrev pub Went : ℕ → ℕ → Bool → ℕ → ℕ → ℕ → Type 0
Went l p true s g w = (g ≡ l + w) × ((t : ℕ) × (g ≡ t * (p * 8)))
Went l p false s g w = (g ≡ w) × (s < l) × (g < l)

-- the price of a sample: what it is off by, and how that is paid for. Where the phase is below 1 ÷ from, it leaves a credit of the allowance; from there
-- up it may spend that, if it leads back below
pub record Priced (allowed credit from l u v w : ℕ) (t : Bool) : Type 0 where
  pub off : ℕ
  pub near : Within off (cond t 1 0 * l + w) (u + v)
  pub early : u * from < l → off + credit ≤ allowed
  pub late : l ≤ u * from → off ≤ allowed + credit
  pub stays : l ≤ u * from → l ≤ w * from → off ≤ allowed
  pub below : w < l

-- the step is at most 0.499 as a binary32, 8,371,831 ÷ 2^24; that is 33,487,324 of p
module _ (l p u v g w : ℕ) (L : l ≡ 67108864 * p) (K : 0 < p) (b : u < l) (most : v ≤ 33487324 * p) (any : Within (p * 4) g (u + v))
    (one : u + v < l → Within (p * 2) g (u + v)) where
  turned-near : g ≡ l + w → (e : ℕ) → Within e g (u + v) → Within e (1 * l + w) (u + v)
  turned-near h e n = let i = n.0 in let j = n.1 in (omega (arith, i), omega (arith, j))

  stayed-near : g ≡ w → (e : ℕ) → Within e g (u + v) → Within e (0 * l + w) (u + v)
  stayed-near h e n = let i = n.0 in let j = n.1 in (omega (arith, i), omega (arith, j))

  -- a turn is completed only from 1 ÷ 2 up
  from-half : g ≡ l + w → u * 2 < l → ⊥
  from-half h k =
      let o = one (omega arith) in
      let i = o.0 in
      omega (arith, i)

  -- and leads to below 1 ÷ 2
  to-half : g ≡ l + w → l ≤ w * 2 → ⊥
  to-half h k = let i = any.0 in omega (arith, i)

  -- where the phase and the step keep the sum a multiple of 2^−24, only a turn is off
  pub price-even : (t : Bool) → Went l p t (u + v) g w → (u + v < l → g ≡ u + v) → Priced (p * 2) (p * 2) 2 l u v w t
  price-even true h exact =
      record {
        off = p * 4;
        near = turned-near h.0 (p * 4) any;
        early = λ k. absurd (from-half h.0 k);
        late = λ k. omega arith;
        stays = λ k j. absurd (to-half h.0 j);
        below = let i = any.0 in let e = h.0 in omega (arith, i, e);
      }
  price-even false h exact =
      record {
        off = 0;
        near = let e = h.0 in let f = exact h.1 in (omega (arith, e, f), omega (arith, e, f));
        early = λ k. omega arith;
        late = λ k. omega arith;
        stays = λ k j. omega arith;
        below = let e = h.0 in let f = h.2 in omega (arith, e, f);
      }

  -- no sample is off by more than 2^−25
  pub price-odd : (t : Bool) → Went l p t (u + v) g w → (l ≤ u + v → Within (p * 2) g (u + v)) → Priced (p * 2) 0 1 l u v w t
  price-odd true h over =
      record {
        off = p * 2;
        near = turned-near h.0 (p * 2) (elim (order l (u + v)) [ inl k ↦ over k | inr k ↦ one k ]);
        early = λ k. omega arith;
        late = λ k. omega arith;
        stays = λ k j. omega arith;
        below = let i = any.0 in let e = h.0 in omega (arith, i, e);
      }
  price-odd false h over =
      record {
        off = p * 2;
        near = stayed-near h.0 (p * 2) (one h.1);
        early = λ k. omega arith;
        late = λ k. omega arith;
        stays = λ k j. omega arith;
        below = let e = h.0 in let f = h.2 in omega (arith, e, f);
      }

  -- below 1 ÷ 4, with q half of p
  pub price-low : (q : ℕ) → p ≡ q * 2 → v * 4 < l → (u + v < 33554432 * p → Within p g (u + v)) → (l ≤ u * 2 → u + p * 4 ≤ l)
      → (t : Bool) → Went l p t (u + v) g w → Priced (q * 5) (q * 3) 4 l u v w t
  price-low q Q low half room true h =
      let i = any.0 in
      let e = h.0 in
      record {
        off = p * 4;
        near = turned-near e (p * 4) any;
        early = λ k. absurd (from-half e (omega arith));
        late = λ k. omega arith;
        stays = λ k j. absurd (far e j (order l (u * 2)));
        below = omega (arith, i, e);
      }
    where
      far : g ≡ l + w → l ≤ w * 4 → (l ≤ u * 2) ⊎ (u * 2 < l) → ⊥
      far e j (inl k) = let i = any.0 in let r = room k in omega (arith, i, r)
      far e j (inr k) = from-half e k
  price-low q Q low half room false h = by_place (order l (u * 4))
    where
      by_place : (l ≤ u * 4) ⊎ (u * 4 < l) → Priced (q * 5) (q * 3) 4 l u v w false
      by_place (inl k) =
          record {
            off = p * 2;
            near = stayed-near h.0 (p * 2) (one h.1);
            early = λ j. absurd (let i : l < l = omega arith in omega arith);
            late = λ j. omega arith;
            stays = λ j i. omega arith;
            below = let e = h.0 in let f = h.2 in omega (arith, e, f);
          }
      by_place (inr k) =
          record {
            off = p;
            near = stayed-near h.0 p (half (omega arith));
            early = λ j. omega arith;
            late = λ j. absurd (let i : l < l = omega arith in omega arith);
            stays = λ j i. absurd (let i : l < l = omega arith in omega arith);
            below = let e = h.0 in let f = h.2 in omega (arith, e, f);
          }
