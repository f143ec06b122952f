-- `fixed::pressed` meets its contract. Past an excess of 992 the quotient no longer grows, so 1,024 stands for all of them.
-- what the excess that the code takes is: at most 1,024, and its quotient is the whole excess's
use Prim.Native.Nat.{zero}
use Rattle.std.proofs.Common.{◌≡◌, ℕ, suc, ◌+◌, ◌-◌, ◌*◌, ◌/◌, ◌<◌, ◌≤◌, sym, ◌∙◌, mul-le-mul, arith, le-leb}
use borrow.Author.Tests.{lt-leb}
use Rattle.laws.proofs.Signed.{pressed<}
use Rattle.fixed.proofs.Laws.{knee-top}
use Rattle.fixed.proofs.pressed.Goals.{Joined-n-lt1120}
use Rattle.fixed.proofs.pressed.Goals as goal

record Excess (room n e : ℕ) : Type 0 where
  few : e ≤ 1024
  prod : room * e ≤ 32768
  quot : room * e / (e + room) ≡ room * (n - 96) / (n - 96 + room)
  low : room * e / (e + room) < room

-- two excesses past 992 have one quotient
level : (room a b : ℕ) → 0 < room → room ≤ 32 → 992 ≤ a → 992 ≤ b → room * a / (a + room) ≡ room * b / (b + room)
level (suc r) a b p h k l =
    let s : r ≤ 31 = omega arith in
    let m : suc r * r ≤ 32 * 31 = mul-le-mul h s in
    knee-top r a (omega arith) ∙ sym (knee-top r b (omega arith))
level zero a b p h k l = elim p [ ]

excess : (room n e : ℕ) → 0 < room → room ≤ 32 → e ≤ 1024 → room * e / (e + room) ≡ room * (n - 96) / (n - 96 + room) → Excess room n e
excess room n e p h k q =
    let m : room * e ≤ 32 * 1024 = mul-le-mul h k in
    record { few = k; prod = omega arith; quot = q; low = pressed< room e p }

small : (room n e : ℕ) → 0 < room → room ≤ 32 → n < 1120 → e ≡ n - 96 → Excess room n e
small room n e p h l q = excess room n e p h (omega arith) (rw q)

large : (room n e : ℕ) → 0 < room → room ≤ 32 → 1120 ≤ n → e ≡ 1024 → Excess room n e
large room n e p h l q = excess room n e p h (omega arith) (rw q (level room 1024 (n - 96) p h (omega arith) (omega arith)))

excess_c : (c : Joined-n-lt1120) → Excess c.args.room c.args.n c.if-n-lt1120.e
excess_c c =
    let p = c.requires in
    elim c.if-n-lt1120.branch [
      | goal.then-n-lt1120 h ↦ small _ _ _ p.0 p.1 h.if-n-lt1120.true h.e-is
      | goal.else-n-lt1120 h ↦ large _ _ _ p.0 p.1 h.if-n-lt1120.false h.e-is
    ]

pub returns-then-n-le96 : goal.returns-then-n-le96
returns-then-n-le96 c = (rw (le-leb _ _ c.if-n-le96.true), omega arith)

pub overflow_mul-result : goal.overflow_mul-result
overflow_mul-result c = omega (arith, (excess_c (goal.at.overflow_mul-result c).Joined-n-lt1120).prod)

pub overflow_add-result : goal.overflow_add-result
overflow_add-result c = omega (arith, (excess_c (goal.at.overflow_add-result c).Joined-n-lt1120).few)

pub overflow_add-result-2 : goal.overflow_add-result-2
overflow_add-result-2 c = omega (arith, (excess_c (goal.at.overflow_add-result-2 c).Joined-n-lt1120).low)

pub returns : goal.returns
returns c =
    (rw ((excess_c (goal.at.returns c).Joined-n-lt1120).quot, lt-leb _ _ c.if-n-le96.false), omega (arith, (excess_c (goal.at.returns c).Joined-n-lt1120).low))
