-- What callers cite of a payload: where the number is 0, the part that is named is within the bytes. Assumes nothing.
use Rattle.std.specs.Prelude.{Some}
use Prim.Native.Nat.{ℕ, ◌+◌, ◌≤◌}
use mathlib.Core.Path.{◌≡◌, refl}
use mathlib.Core.Bool.{Bool, true, false, cond}
use mathlib.Core.List.{List, [], ◌∷◌}
use native.Mathlib.Omega.{arith}
use lib.Dec.{eqb, ltb}
use lib.ListN.{length}
use Rattle.bank.proofs.Laws.{whole-within}
use Rattle.bank.specs.Banks.{bank_of, lent_bank, Fails, nowhere, at_offset, at_length, fails_in, payload_number, payload_under}
use Rattle.bank.specs.Entries.{place_of}
use Rattle.bank.specs.declared.EffectEntry.{EffectEntry}
use Rattle.bank.specs.declared.SoundBank.{SoundBank}
use Rattle.error.specs.Told.{Told, value, refused, and_then, passed, number_in}
use Rattle.exports.specs.Banks.{looked_up, part_told, found_part}

-- 0 is no refusal's number
abbrev Numbered : {A : Type 0} → Told A → Type 0
Numbered (value x) = Unit {0}
Numbered (refused n) = 1 ≤ n

numbered_of : {A : Type 0} (b : Bool) (s t : Told A) → Numbered s → Numbered t → Numbered (cond b s t)
numbered_of true s t h k = h
numbered_of false s t h k = k

numbered-then : {A C : Type 0} (t : Told A) (next : A → Told C) → Numbered t → ((x : A) → Numbered (next x)) → Numbered (and_then t next)
numbered-then (value x) next h k = k x
numbered-then (refused n) next h k = h

bank-numbered : (rate count len : ℕ) → Numbered (bank_of rate count len)
unfolding bank_of
bank-numbered rate count len =
    numbered_of (ltb 65537 rate) (refused 2) _ (omega arith) (numbered_of (ltb len (place_of count)) (refused 4) _ (omega arith) tt)

payload-numbered : (b : SoundBank) (bytes : List ℕ) (offset len : ℕ) → Numbered (payload_under true (Some b) bytes offset len)
unfolding payload_under lent_bank
payload-numbered b bytes offset len =
    numbered-then (cond (eqb (length bytes) b.len) (value b) (refused 7)) _
    (numbered_of (eqb (length bytes) b.len) (value b) (refused 7) tt (omega arith))
    (λ x. fails-numbered (fails_in (length bytes) offset len))
  where
    fails-numbered : (f : Fails) → Numbered (payload_number true f)
    fails-numbered nowhere = tt
    fails-numbered at_offset = omega arith
    fails-numbered at_length = omega arith

is-passed : (t : Told (Unit {0})) → Numbered t → number_in t ≡ 0 → t ≡ passed
is-passed (value tt) h e = refl
is-passed (refused n) h e = absurd (omega arith)

module _ (bytes : List ℕ) (rate count : ℕ) where
  inside : (offset len : ℕ) → looked_up bytes rate count offset len ≡ passed → offset + len ≤ length bytes
  unfolding looked_up
  inside offset len h = by-bank (bank_of rate count (length bytes)) h
    where
      by-bank : (t : Told SoundBank) → and_then t (λ b. payload_under true (Some b) bytes offset len) ≡ passed → offset + len ≤ length bytes
      by-bank (refused n) h = let z : ◌≡◌ {A = ℕ} 0 1 = cc in omega arith
      by-bank (value b) h = whole-within true (Some b) bytes offset len h

  looked-numbered : (offset len : ℕ) → Numbered (looked_up bytes rate count offset len)
  unfolding looked_up
  looked-numbered offset len =
      numbered-then (bank_of rate count (length bytes)) _ (bank-numbered rate count (length bytes)) (λ b. payload-numbered b bytes offset len)

  -- of a lookup by offset and length
  pub part-inside : (offset len : ℕ) → number_in (looked_up bytes rate count offset len) ≡ 0 → offset + len ≤ length bytes
  part-inside offset len h = inside offset len (is-passed (looked_up bytes rate count offset len) (looked-numbered offset len) h)

  -- of a lookup by id: the two numbers that are given
  pub part-of-inside : (t : Told EffectEntry) (offset len : ℕ) → found_part bytes rate count t ≡ value (offset ∷ len ∷ []) → offset + len ≤ length bytes
  part-of-inside (refused n) offset len h = let z : ◌≡◌ {A = ℕ} 0 1 = cc in omega arith
  part-of-inside (value e) offset len h = by (looked_up bytes rate count e.offset e.len) refl h
    where
      by : (t : Told (Unit {0})) → looked_up bytes rate count e.offset e.len ≡ t → part_told e.offset e.len t ≡ value (offset ∷ len ∷ []) → offset + len ≤ length bytes
      by (value tt) k h =
          let a : e.offset ≡ offset = cc in
          let b : e.len ≡ len = cc in
          let i = inside e.offset e.len k in
          omega arith
      by (refused n) k h = let z : ◌≡◌ {A = ℕ} 0 1 = cc in omega arith
