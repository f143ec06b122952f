-- Which end of a payload is wrong (document 02, T-06): what each number says, and what both boxes share. Assumes nothing.
use Prim.Native.Nat.{ℕ, ◌+◌, ◌≤◌, ◌<◌}
use mathlib.Core.Path.{◌≡◌, refl}
use mathlib.Core.Bool.{Bool, true, false, cond}
use mathlib.Core.List.{List}
use mathlib.Core.Logic.{◌⊎◌, inl, inr}
use native.Mathlib.Omega.{arith}
use borrow.Author.Tests.{lt-leb, lt-ltb, le-ltb}
use lib.Dec.{eqb, ltb}
use lib.ListN.{length}
use Rattle.error.specs.Told.{value, refused, and_then, value_in}
use Rattle.error.proofs.Told.{then-value, not-refused}
use Rattle.std.specs.Prelude.{Option, Some, None}
use Rattle.bank.specs.declared.SoundBank.{SoundBank}
use Rattle.bank.specs.Banks.{lent_bank, Fails, nowhere, at_offset, at_length, fails_in, payload_number, payload_under, payload_given}

-- "offset beyond the bank"
pub fails-offset : (size offset len : ℕ) → size < offset → fails_in size offset len ≡ at_offset
fails-offset size offset len h = rw (lt-leb (offset + len) size (omega arith), lt-ltb size offset h)

-- "offset within or at its end, but the payload runs over"
pub fails-length : (size offset len : ℕ) → offset ≤ size → size < offset + len → fails_in size offset len ≡ at_length
fails-length size offset len h k = rw (lt-leb (offset + len) size k, le-ltb size offset h)

number-value : (a b : Bool) (f : Fails) → value_in (payload_number a f) ≡ value_in (payload_number b f)
number-value a b nowhere = refl
number-value a b at_offset = refl
number-value a b at_length = refl

module _ (bank : Option SoundBank) (bytes : List ℕ) (offset len : ℕ) where
  -- the rules differ in numbers alone
  pub payload-value : (a b : Bool) → value_in (payload_under a bank bytes offset len) ≡ value_in (payload_under b bank bytes offset len)
  unfolding payload_under
  payload-value a b = then-value (lent_bank bank (length bytes)) _ _ (λ _. number-value a b (fails_in (length bytes) offset len))

-- "number 4 gives way to two": it stood exactly where one of the two stands
fails-old : (f : Fails) → payload_number false f ≡ refused 4 → (payload_number true f ≡ refused 15) ⊎ (payload_number true f ≡ refused 16)
fails-old nowhere e = not-refused e
fails-old at_offset e = inl refl
fails-old at_length e = inr refl

fails-new : (n : ℕ) → 15 ≤ n → (f : Fails) → payload_number true f ≡ refused n → payload_number false f ≡ refused 4
fails-new n h nowhere e = cc
fails-new n h at_offset e = refl
fails-new n h at_length e = refl

pub gives-way : (bank : Option SoundBank) (bytes : List ℕ) (offset len : ℕ) → payload_given bank bytes offset len ≡ refused 4
    → (payload_under true bank bytes offset len ≡ refused 15) ⊎ (payload_under true bank bytes offset len ≡ refused 16)
unfolding payload_under lent_bank
gives-way None bytes offset len e = let z : ◌≡◌ {A = ℕ} 6 4 = cc in absurd (omega arith)
gives-way (Some b) bytes offset len e = by-test (eqb (length bytes) b.len) e
  where
    f : Fails
    f = fails_in (length bytes) offset len

    by-test : (t : Bool) → and_then (cond t (value b) (refused 7)) (λ _. payload_number false f) ≡ refused 4
        → (and_then (cond t (value b) (refused 7)) (λ _. payload_number true f) ≡ refused 15) ⊎ (and_then (cond t (value b) (refused 7)) (λ _. payload_number true f) ≡ refused 16)
    by-test true e = fails-old f e
    by-test false e = let z : ◌≡◌ {A = ℕ} 7 4 = cc in absurd (omega arith)

pub gave-way : (bank : Option SoundBank) (bytes : List ℕ) (offset len n : ℕ) → 15 ≤ n → payload_under true bank bytes offset len ≡ refused n
    → payload_given bank bytes offset len ≡ refused 4
unfolding payload_under lent_bank
gave-way None bytes offset len n h e = let z : ◌≡◌ {A = ℕ} 6 n = cc in absurd (omega arith)
gave-way (Some b) bytes offset len n h e = by-test (eqb (length bytes) b.len) e
  where
    f : Fails
    f = fails_in (length bytes) offset len

    by-test : (t : Bool) → and_then (cond t (value b) (refused 7)) (λ _. payload_number true f) ≡ refused n
        → and_then (cond t (value b) (refused 7)) (λ _. payload_number false f) ≡ refused 4
    by-test true e = fails-new n h f e
    by-test false e = let z : ◌≡◌ {A = ℕ} 7 n = cc in absurd (omega arith)

-- document 01's number for either end
pub fails-unparted : (size offset len : ℕ) → size < offset + len → payload_number false (fails_in size offset len) ≡ refused 4
fails-unparted size offset len h = rw (lt-leb (offset + len) size h) (by_end (ltb size offset))
  where
    by_end : (t : Bool) → payload_number false (cond t at_offset at_length) ≡ refused 4
    by_end true = refl
    by_end false = refl
