-- Samples one after another. A sample may be off by more than the allowance where those before it were off by less: what is saved is kept as
-- a credit while the phase is at least 1 ÷ from, since only from there a turn can be completed. Assumes nothing.
use mathlib.Core.Path.{◌≡◌, refl}
use Prim.Native.Nat.{ℕ, zero, suc, ◌+◌, ◌*◌, ◌≤◌, ◌<◌}
use native.Mathlib.Omega.{arith}
use mathlib.Core.Bool.{false, cond}
use mathlib.Core.Logic.{inl, inr}
use lib.Pow.{pow_pos}
use lib.Ieee.{Float}
use lib.Ieee.Exact.{HasValue}
use Rattle.polyblep.specs.Oscillators.{completes, advance, advanced, later}
use Rattle.polyblep.specs.declared.PolyBlepOscillator.{PolyBlepOscillator}
use Rattle.drift.specs.Turns.{turn, turns}
use Rattle.drift.specs.Pitch.{Within}
use Rattle.drift.proofs.Prices.{Priced, order}
use Rattle.drift.proofs.Values.{U}

-- a step of v units from a phase of u units, and its price
pub record Paid (Good : Float → ℕ → Type 0) (allowed credit from v : ℕ) (x d : Float) (u : ℕ) : Type 0 where
  pub next : ℕ
  pub value : HasValue (advance x d) false next U
  pub good : Good (advance x d) next
  pub price : Priced allowed credit from U u v next (completes x d)

-- what holds after n samples and t turns
pub record Held (Good : Float → ℕ → Type 0) (allowed credit from v n t : ℕ) (x : Float) : Type 0 where
  pub units : ℕ
  pub value : HasValue x false units U
  pub good : Good x units
  pub off : ℕ
  pub near : Within off (t * U + units) (n * v)
  pub within : off ≤ n * allowed
  pub saved : U ≤ units * from → off + credit ≤ n * allowed

-- ---- numbers
both : (T t l u w v n e f : ℕ) → Within e (T * l + u) (n * v) → Within f (t * l + w) (u + v) → Within (e + f) ((T + t) * l + w) (suc n * v)
both T t l u w v n e f p q =
    let a = p.0 in
    let b = p.1 in
    let c = q.0 in
    let d = q.1 in
    (omega (arith, a, c), omega (arith, b, d))

paid-within : (n a c u l e f : ℕ) → e ≤ n * a → (l ≤ u → e + c ≤ n * a) → (u < l → f + c ≤ a) → (l ≤ u → f ≤ a + c) → e + f ≤ suc n * a
paid-within n a c u l e f h s y k =
    elim (order l u) [ inl g ↦ (let i = s g in let j = k g in omega arith) | inr g ↦ (let i = y g in omega arith) ]

paid-saved : (n a c u l e f : ℕ) → e ≤ n * a → (l ≤ u → e + c ≤ n * a) → (u < l → f + c ≤ a) → (l ≤ u → f ≤ a) → e + f + c ≤ suc n * a
paid-saved n a c u l e f h s y k =
    elim (order l u) [ inl g ↦ (let i = s g in let j = k g in omega arith) | inr g ↦ (let i = y g in omega arith) ]

begins : (l v : ℕ) → Within 0 (0 * l + 0) (0 * v)
begins l v = (omega arith, omega arith)

nothing : (l from : ℕ) → 0 < l → l ≤ 0 * from → ⊥
nothing l from k h = omega arith

-- ---- the step never changes
pub same_step : (n : ℕ) (o : PolyBlepOscillator) → (later n o).phase_inc ≡ o.phase_inc
unfolding later advanced
same_step zero o = refl
same_step (suc n) o = same_step n o

module _ (Good : Float → ℕ → Type 0) (allowed credit from v : ℕ) (o : PolyBlepOscillator) (begin : Good o.phase 0) (zero-value : HasValue o.phase false 0 U)
    (pay : (x : Float) (u : ℕ) → Good x u → HasValue x false u U → Paid Good allowed credit from v x o.phase_inc u) where
  pub run : (n : ℕ) → Held Good allowed credit from v n (turns n o) (later n o).phase
  unfolding later advanced turns turn
  run zero =
      record {
        units = 0;
        value = zero-value;
        good = begin;
        off = 0;
        near = begins U v;
        within = omega arith;
        saved = λ l. absurd (nothing U from (pow_pos 149) l);
      }
  run (suc n) =
      let h = run n in
      let p = pay (later n o).phase h.units h.good h.value in
      let c = p.price in
      rw (same_step n o)
      (record {
        units = p.next;
        value = p.value;
        good = p.good;
        off = h.off + c.off;
        near = both (turns n o) (cond (completes (later n o).phase o.phase_inc) 1 0) U h.units p.next v n h.off c.off h.near c.near;
        within = paid-within n allowed credit (h.units * from) U h.off c.off h.within h.saved c.early c.late;
        saved = λ l. paid-saved n allowed credit (h.units * from) U h.off c.off h.within h.saved c.early (λ k. c.stays k l);
      })
