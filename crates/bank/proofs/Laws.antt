-- Laws that callers cite: which banks are set, what the checks in front let through, what a payload's part is. Assumes nothing.
use Prim.Native.Nat.{ℕ, ◌+◌, ◌≤◌}
use mathlib.Core.Path.{◌≡◌, refl}
use mathlib.Core.Bool.{Bool, true, false, cond}
use mathlib.Core.List.{List, []}
use native.Mathlib.Omega.{arith}
use borrow.Author.Tests.{eq-eqb, eqb-true, le-leb, leb-true, ltb-false}
use lib.Dec.{eqb, leb, ltb}
use lib.ListN.{length, take, drop, length-drop}
use lib.Seq.{length-take-le}
use Rattle.error.specs.Told.{Told, value, refused, and_then, passed, ValidTold}
use Rattle.bank.specs.declared.SoundBank.{SoundBank}
use Rattle.std.specs.Prelude.{Option, Some, None}
use Rattle.bank.specs.Entries.{place_of}
use Rattle.bank.specs.Banks.{Valid, ValidBank, bank_of, lent_bank, nowhere, at_offset, at_length, fails_in, payload_number, payload_under, payload_given, payload_part}

-- setting gives only valid banks
pub new-valid : (rate count len : ℕ) → ValidTold Valid (bank_of rate count len)
unfolding bank_of
new-valid rate count len = by-rate (ltb 65537 rate) refl
  where
    made : SoundBank
    made = record { sample_rate_hz = rate; effect_count = count; len = len }

    by_end : rate ≤ 65537 → (t : Bool) → ltb len (place_of count) ≡ t → ValidTold Valid (cond t (refused 4) (value made))
    by_end r true h = tt
    by_end r false h = record { rate = r; holds = ltb-false len (place_of count) h }

    by-rate : (t : Bool) → ltb 65537 rate ≡ t → ValidTold Valid (cond t (refused 2) (cond (ltb len (place_of count)) (refused 4) (value made)))
    by-rate true h = tt
    by-rate false h = by_end (ltb-false 65537 rate h) (ltb len (place_of count)) refl

-- the checks in front give the bank that was set where the bytes lent are as many
pub lent_same : (b : SoundBank) (lent : ℕ) → lent ≡ b.len → lent_bank (Some b) lent ≡ value b
unfolding lent_bank
lent_same b lent e = rw (eq-eqb lent b.len e)

-- a bank that is given has its entries within the bytes
pub lent_holds : (bank : Option SoundBank) (b : SoundBank) (lent : ℕ) → ValidBank bank → lent_bank bank lent ≡ value b → place_of b.effect_count ≤ lent
unfolding lent_bank
lent_holds None b lent v e = let z : ◌≡◌ {A = ℕ} 0 1 = cc in omega arith
lent_holds (Some a) b lent v e = by-test (eqb lent a.len) refl e
  where
    by-test : (t : Bool) → eqb lent a.len ≡ t → cond t (value a) (refused 7) ≡ value b → place_of b.effect_count ≤ lent
    by-test true h e =
        let same : a ≡ b = cc in
        let all : place_of a.effect_count ≤ lent = omega (arith, v.holds, eqb-true lent a.len h) in
        rw same at all
    by-test false h e = let z : ◌≡◌ {A = ℕ} 0 1 = cc in omega arith

-- a payload that is whole ends within the bytes
pub whole-within : (parted : Bool) (bank : Option SoundBank) (bytes : List ℕ) (offset len : ℕ) → payload_under parted bank bytes offset len ≡ passed → offset + len ≤ length bytes
unfolding payload_under
whole-within parted bank bytes offset len e = by-bank (lent_bank bank (length bytes)) e
  where
    size : ℕ
    size = length bytes

    by_end : (u : Bool) → payload_number parted (cond u at_offset at_length) ≡ passed → offset + len ≤ size
    by_end true e = let z : ◌≡◌ {A = ℕ} 0 1 = cc in omega arith
    by_end false e = let z : ◌≡◌ {A = ℕ} 0 1 = cc in omega arith

    by-test : (t : Bool) → leb (offset + len) size ≡ t → payload_number parted (cond t nowhere (cond (ltb size offset) at_offset at_length)) ≡ passed → offset + len ≤ size
    by-test true h e = leb-true (offset + len) size h
    by-test false h e = by_end (ltb size offset) e

    by-bank : (t : Told SoundBank) → and_then t (λ b. payload_number parted (fails_in size offset len)) ≡ passed → offset + len ≤ size
    by-bank (refused n) e = let z : ◌≡◌ {A = ℕ} 0 1 = cc in omega arith
    by-bank (value b) e = by-test (leb (offset + len) size) refl e

-- the part of a payload that is whole: from its offset, of its length
pub whole_part : (bank : Option SoundBank) (bytes : List ℕ) (offset len : ℕ) → payload_given bank bytes offset len ≡ passed → payload_part bank bytes offset len ≡ take len (drop offset bytes)
whole_part bank bytes offset len e = rw e

pub whole_length : (bank : Option SoundBank) (bytes : List ℕ) (offset len : ℕ) → payload_given bank bytes offset len ≡ passed → length (payload_part bank bytes offset len) ≡ len
whole_length bank bytes offset len e =
    let h = whole-within false bank bytes offset len e in
    rw e (length-take-le len (drop offset bytes) (rw length-drop (omega arith)))

pub refused-part : (bank : Option SoundBank) (bytes : List ℕ) (offset len : ℕ) {n : ℕ} → payload_given bank bytes offset len ≡ refused n → payload_part bank bytes offset len ≡ []
refused-part bank bytes offset len e = rw e

-- "offset equal to the bank's length with length 0 is accepted"
pub whole-at-end : (parted : Bool) (bank : Option SoundBank) {b : SoundBank} (bytes : List ℕ) → lent_bank bank (length bytes) ≡ value b
    → payload_under parted bank bytes (length bytes) 0 ≡ passed
unfolding payload_under
whole-at-end parted bank bytes e = rw (e, le-leb (length bytes + 0) (length bytes) (omega arith))
