-- Float tests as facts about numbers, and quotients cut to a whole number. Assumes nothing.
use mathlib.Core.Path.{◌≡◌, refl, sym}
use mathlib.Core.Logic.{inl, inr}
use Prim.Native.Nat.{ℕ, ◌*◌, ◌/◌, ◌≤◌, ◌<◌}
use native.Mathlib.Nat.{le_of_lt, eq-or-lt_of_le, le-div_iff_mul-le, div-lt_iff_lt-mul}
use native.Mathlib.Omega.{arith}
use mathlib.Core.Bool.{Bool, true, false, not, ◌&&◌, ◌||◌, true≢false}
use lib.Dec.{T, ltb, eqb, ltb→lt, lt→ltb, eqb→eq, nltb→le}
use lib.IntN.{pos}
use lib.Ieee.{fin, round}
use lib.Ieee.Fits.{eq→eqb}
use Rattle.laws.specs.F32.{lit}

-- literals as values
pub zero_is : lit 0 1 ≡ fin false 0 (pos 0)
unfolding round
zero_is = refl

pub one-is : lit 1 1 ≡ fin false 1 (pos 0)
unfolding round
one-is = refl

-- one of two tests passes
pub or_l : (a b : Bool) → T a → T (a || b)
or_l true b t = tt
or_l false b t = absurd t

-- a ≤ b, as `le` spells it for two that are not negative
pub or-le : (a b : ℕ) → T (ltb a b || (eqb a b && true)) → a ≤ b
or-le a b t = go (ltb a b) (eqb a b) (ltb→lt a b) (eqb→eq a b) t
  where
    go : (p q : Bool) → (T p → a < b) → (T q → a ≡ b) → T (p || (q && true)) → a ≤ b
    go true q h k t = le_of_lt (h tt)
    go false true h k t = let e : a ≡ b = k tt in omega arith
    go false false h k t = absurd t

pub nor-lt : (a b : ℕ) → (ltb a b || (eqb a b && true)) ≡ false → b < a
nor-lt a b t = go (ltb a b) (eqb a b) (nltb→le a b) (λ e. eq→eqb e) t
  where
    go : (p q : Bool) → (T (not p) → b ≤ a) → (a ≡ b → T q) → (p || (q && true)) ≡ false → b < a
    go true q h k t = absurd (true≢false t)
    go false true h k t = absurd (true≢false t)
    go false false h k t = elim (eq-or-lt_of_le (h tt)) [ inl e ↦ absurd (k (sym e)) | inr l ↦ l ]

pub le-or : (a b : ℕ) → a ≤ b → T (ltb a b || (eqb a b && true))
le-or a b h = elim (eq-or-lt_of_le h) [ inl e ↦ or_r (ltb a b) (eqb a b) (eq→eqb e) | inr l ↦ or_l (ltb a b) (eqb a b && true) (lt→ltb a b l) ]
  where
    or_r : (p q : Bool) → T q → T (p || (q && true))
    or_r true q t = tt
    or_r false true t = tt
    or_r false false t = t

-- and for two that are negative, where the larger number is the lesser float
pub or-ge : (a b : ℕ) → T (ltb b a || (eqb a b && true)) → b ≤ a
or-ge a b t = go (ltb b a) (eqb a b) (ltb→lt b a) (eqb→eq a b) t
  where
    go : (p q : Bool) → (T p → b < a) → (T q → a ≡ b) → T (p || (q && true)) → b ≤ a
    go true q h k t = le_of_lt (h tt)
    go false true h k t = let e : a ≡ b = k tt in omega arith
    go false false h k t = absurd t

pub nor-gt : (a b : ℕ) → (ltb b a || (eqb a b && true)) ≡ false → a < b
nor-gt a b t = go (ltb b a) (eqb a b) (nltb→le b a) (λ e. eq→eqb e) t
  where
    go : (p q : Bool) → (T (not p) → a ≤ b) → (a ≡ b → T q) → (p || (q && true)) ≡ false → a < b
    go true q h k t = absurd (true≢false t)
    go false true h k t = absurd (true≢false t)
    go false false h k t = elim (eq-or-lt_of_le (h tt)) [ inl e ↦ absurd (k e) | inr l ↦ l ]

-- bounds on a quotient
pub cut-ge : (a d k : ℕ) → 0 < d → k * d ≤ a → k ≤ a / d
cut-ge a d k D h = (le-div_iff_mul-le D).1 h

pub cut-lt : (a d k : ℕ) → 0 < d → a < k * d → a / d < k
cut-lt a d k D h = (div-lt_iff_lt-mul D).1 h
