-- The pattern at the rates at which it opens: its phases, its cycle and its runs of samples. Assumes nothing.
use Prim.Native.Nat.{ℕ, zero, suc, ◌+◌, ◌*◌, ◌-◌, ◌/◌, ◌%◌, ◌≤◌, ◌<◌}
use native.Mathlib.Nat.{zero-add, add-zero, suc-add, add-suc, add_assoc, zero-mul, zero-div, suc-mod, mod-eq_of_lt, mod_self, mod-lt, add-mod_right, add-mul-mod_self_right, mul-le-mul, le_of_suc-le-suc}
use native.Mathlib.Numerals.{add-one}
use native.Mathlib.Omega.{arith}
use mathlib.Core.Path.{◌≡◌, refl, sym, ap, ◌∙◌, subst}
use mathlib.Core.Bool.{Bool, true, false, cond}
use mathlib.Core.List.{List, [], ◌∷◌, ◌++◌, map, append-nil}
use borrow.Author.Tests.{lt-ltb, le-ltb, eqb-true, eqb-false, ltb-true, ltb-false}
use lib.Arith.{digits_mod, lt_of_le-ne}
use lib.Dec.{ltb, leb, eqb, eqb→eq, leb→le}
use lib.ListN.{length, get_or, take, drop, replicate, set, get_or-map}
use lib.Seq.{sets, drop-length}
use Rattle.laws.specs.Runs.{after, given}
use Rattle.laws.specs.Durations.{samples_of}
use Rattle.laws.proofs.Finite.{below}
use Rattle.laws.proofs.Runs.{given-parts}
use Rattle.laws.proofs.Stores.{cells_of, length-cells, sets-front}
use Rattle.evacuation.specs.declared.Place.{Place}
use Rattle.evacuation.specs.Pattern.{phases, is_on, byte_of, lengths, total, cycle_of, phase_at, sounds, sound_byte, samples_from, within_tenth, spelt}
use Rattle.evacuation.specs.Opened.{ValidRate}
use Rattle.evacuation.specs.Places.{next_phase, Stands, next_place}
use Rattle.evacuation.proofs.Tenths.{within-yes}

-- ---- the list
-- its rule, by one test over the whole of it: half a second each, but the last one and a half
pub phase-rule : (k : ℕ) → k < 6 → get_or phases k 0 ≡ cond (eqb k 5) 1500 500
phase-rule k h = eqb→eq _ _ (below (λ i. eqb (get_or phases i 0) (cond (eqb i 5) 1500 500)) 6 tt k h)

pub at_least : (k : ℕ) → k < 6 → 500 ≤ get_or phases k 0
at_least k h = leb→le _ _ (below (λ i. leb 500 (get_or phases i 0)) 6 tt k h)

at_most : (k : ℕ) → k < 6 → get_or phases k 0 ≤ 1500
at_most k h = leb→le _ _ (below (λ i. leb (get_or phases i 0) 1500) 6 tt k h)

-- ---- the phases
pub lasts : (rate k : ℕ) → get_or (lengths rate) k 0 ≡ samples_of (get_or phases k 0) rate
unfolding lengths
lasts rate k =
    let z : samples_of 0 rate ≡ 0 = rw (zero-mul, zero-div) in
    subst (λ (d : ℕ). get_or (map (λ (ms : ℕ). samples_of ms rate) phases) k d ≡ samples_of (get_or phases k 0) rate) z
    (get_or-map (λ (ms : ℕ). samples_of ms rate) phases k 0)

pub six : (rate : ℕ) → take 6 (lengths rate) ≡ lengths rate
unfolding lengths
six rate = refl

pub size : (rate : ℕ) → length (lengths rate) ≡ 6
unfolding lengths
size rate = refl

module _ {rate : ℕ} (v : ValidRate rate) where
  nominal-least : (k : ℕ) → k < 6 → 10000 ≤ get_or phases k 0 * rate
  nominal-least k h = let p : 500 * 20 ≤ get_or phases k 0 * rate = mul-le-mul (at_least k h) v.least in omega arith

  pub nominal-most : (k : ℕ) → k < 6 → get_or phases k 0 * rate ≤ 98305500
  nominal-most k h = let p : get_or phases k 0 * rate ≤ 1500 * 65537 = mul-le-mul (at_most k h) v.most in omega arith

  -- "each within one tenth of its nominal length"
  pub phase-within : (k : ℕ) → k < 6 → within_tenth (get_or phases k 0) rate (get_or (lengths rate) k 0) ≡ true
  phase-within k h =
      let x = nominal-least k h in
      rw lasts (within-yes (get_or phases k 0) rate (get_or phases k 0 * rate / 1000) (omega arith) (omega arith))

  pub some-samples : (k : ℕ) → k < 6 → 0 < get_or (lengths rate) k 0
  some-samples k h = let x = nominal-least k h in rw lasts (omega arith)

  pub most-samples : (k : ℕ) → k < 6 → get_or (lengths rate) k 0 ≤ 98305
  most-samples k h = let x = nominal-most k h in rw lasts (omega arith)

-- ---- sums of the first phases
pub total-more : (k : ℕ) (ns : List ℕ) → total (take (suc k) ns) ≡ total (take k ns) + get_or ns k 0
unfolding total
total-more zero [] = refl
total-more (suc k) [] = refl
total-more zero (n ∷ ns) = omega arith
total-more (suc k) (n ∷ ns) = let e = total-more k ns in omega arith

total-part : (k : ℕ) (ns : List ℕ) → total (take k ns) ≤ total ns
unfolding total
total-part zero ns = omega arith
total-part (suc k) [] = omega arith
total-part (suc k) (n ∷ ns) = let e = total-part k ns in omega arith

total_first : (ns : List ℕ) → total (take 1 ns) ≡ get_or ns 0 0
unfolding total
total_first [] = refl
total_first (n ∷ ns) = omega arith

-- the phase in which a sample lies
pub phase-at : (ns : List ℕ) (k p : ℕ) → total (take k ns) ≤ p → p < total (take (suc k) ns) → phase_at ns p ≡ k
unfolding total phase_at
phase-at [] k p l h = absurd (omega arith)
phase-at (n ∷ ns) zero p l h = let i : p < n = omega arith in rw (lt-ltb p n i)
phase-at (n ∷ ns) (suc k) p l h =
    let i : n ≤ p = omega arith in
    rw (le-ltb p n i) (ap suc (phase-at ns k (p - n) (omega arith) (omega arith)))

pub cycle-some : {rate : ℕ} → ValidRate rate → 0 < cycle_of rate
unfolding cycle_of
cycle-some {rate} v =
    let m = total_first (lengths rate) in
    let s = some-samples v 0 (omega arith) in
    let l = total-part 1 (lengths rate) in
    omega arith

-- the first k of a list laid over another, one more
pub laid_more : (k : ℕ) (ns before : List ℕ) → k < length ns → k < length before →
    set (take k ns ++ drop k before) k (get_or ns k 0) ≡ take (suc k) ns ++ drop (suc k) before
laid_more k [] before h l = absurd (omega arith)
laid_more k (n ∷ ns) [] h l = absurd (omega arith)
laid_more zero (n ∷ ns) (b ∷ before) h l = refl
laid_more (suc k) (n ∷ ns) (b ∷ before) h l = ap (λ (r : List ℕ). n ∷ r) (laid_more k ns before (omega arith) (omega arith))

-- ---- whether a sample sounds
-- "Each phase has floor(ms × rate ÷ 1000) samples": in cycle q, phase k's samples sound where phase k is on
pub in-phase : (rate q k j : ℕ) → j < get_or (lengths rate) k 0 → sounds rate (q * cycle_of rate + (total (take k (lengths rate)) + j)) ≡ is_on k
unfolding sounds cycle_of
in-phase rate q k j h =
    let ns = lengths rate in
    let e : total (take (suc k) ns) ≡ total (take k ns) + get_or ns k 0 = total-more k ns in
    let l : total (take (suc k) ns) ≤ total ns = total-part (suc k) ns in
    let b : total (take k ns) + j < total ns = omega arith in
    rw (digits_mod q b) (ap is_on (phase-at ns k (total (take k ns) + j) (omega arith) (omega arith)))

-- a cycle later the signal is the same
pub repeats : (rate n : ℕ) → sounds rate (n + cycle_of rate) ≡ sounds rate n
unfolding sounds
repeats rate n = rw add-mod_right

pub repeats-often : (rate n q : ℕ) → sounds rate (n + q * cycle_of rate) ≡ sounds rate n
unfolding sounds
repeats-often rate n q = rw add-mul-mod_self_right

-- ---- runs of samples
pub after-suc : (n first : ℕ) → after suc n first ≡ first + n
unfolding after
after-suc zero first = omega arith
after-suc (suc n) first = let e = after-suc n (suc first) in omega arith

-- a run in two parts is the run at once
pub run-parts : (rate first a b : ℕ) → samples_from rate first (a + b) ≡ samples_from rate first a ++ samples_from rate (first + a) b
run-parts rate first a b = given-parts suc (λ (n : ℕ). sound_byte rate n ∷ []) a b first ∙ rw after-suc

-- and has a byte for each sample
pub run_length : (rate first len : ℕ) → length (samples_from rate first len) ≡ len
unfolding given
run_length rate first zero = refl
run_length rate first (suc n) = ap suc (run_length rate (suc first) n)

pub run-cell : (rate first len i : ℕ) → i < len → get_or (samples_from rate first len) i 0 ≡ sound_byte rate (first + i)
unfolding given
run-cell rate first zero i h = absurd (omega arith)
run-cell rate first (suc n) zero h = rw add-zero
run-cell rate first (suc n) (suc i) h = rw (add-suc, ← suc-add) (run-cell rate (suc first) n i (omega arith))

module _ (f : ℕ → ℕ) where
  abbrev cells : ℕ → ℕ → List ℕ
  cells len first = given suc (λ (n : ℕ). f n ∷ []) len first

  held : (n first b : ℕ) → ((j : ℕ) → j < n → f (first + j) ≡ b) → cells n first ≡ replicate n b
  unfolding given
  held zero first b h = refl
  held (suc n) first b h =
      let e : f first ≡ b = subst (λ (m : ℕ). f m ≡ b) (add-zero first) (h 0 (omega arith)) in
      rw e (ap (λ (l : List ℕ). b ∷ l) (held n (suc first) b (λ j k. subst (λ (m : ℕ). f m ≡ b) (add-suc first j ∙ sym (suc-add first j)) (h (suc j) (omega arith)))))

  -- samples that go by phases of these lengths, the first of them phase i, are those phases' bytes
  spelt-out : (ns : List ℕ) (i first : ℕ) → ((k j : ℕ) → j < get_or ns k 0 → f (first + (total (take k ns) + j)) ≡ byte_of (is_on (i + k))) →
      cells (total ns) first ≡ spelt i ns
  unfolding total spelt given
  spelt-out [] i first h = refl
  spelt-out (n ∷ ns) i first h =
      given-parts suc (λ (m : ℕ). f m ∷ []) n (total ns) first
      ∙ rw (after-suc, held n first (byte_of (is_on i)) (λ j k. rw (zero-add, add-zero) at (h 0 j k)))
      (ap (λ (l : List ℕ). replicate n (byte_of (is_on i)) ++ l)
      (spelt-out ns (suc i) (first + n) (λ k j l. rw (suc-add, ← add-suc, add_assoc, ← add_assoc n) (h (suc k) j l))))

-- a whole cycle is its phases' bytes
pub cycle-run : (rate q : ℕ) → samples_from rate (q * cycle_of rate) (cycle_of rate) ≡ spelt 0 (lengths rate)
unfolding cycle_of
cycle-run rate q = spelt-out (sound_byte rate) (lengths rate) 0 (q * total (lengths rate)) (λ k j h. rw zero-add (ap byte_of (in-phase rate q k j h)))

-- ---- places in the cycle
-- sample n, so many samples into a phase
pub stands-into : (rate n k into : ℕ) → k < 6 → into + total (take k (lengths rate)) ≡ n % cycle_of rate → into < get_or (lengths rate) k 0 →
    Stands rate n (record { phase = k; left = get_or (lengths rate) k 0 - into })
stands-into rate n k into h e l =
    let m = total-more k (lengths rate) in
    record { phase = h; some = omega arith; within = omega arith; ends = omega arith }

-- what comes after the first five phases lies in the last
pub in-last : {rate : ℕ} → ValidRate rate → (n into : ℕ) → into + total (take 5 (lengths rate)) ≡ n % cycle_of rate → into < get_or (lengths rate) 5 0
unfolding cycle_of
in-last {rate} v n into e =
    let m : total (take 6 (lengths rate)) ≡ total (take 5 (lengths rate)) + get_or (lengths rate) 5 0 = total-more 5 (lengths rate) in
    let t : total (take 6 (lengths rate)) ≡ cycle_of rate = rw six in
    let s : 0 < cycle_of rate = cycle-some v in
    let l : n % cycle_of rate < cycle_of rate = mod-lt n s in
    omega arith

pub next-below : (k : ℕ) → k < 6 → next_phase k < 6
next-below k h = by-test (eqb k 5) refl
  where
    by-test : (t : Bool) → eqb k 5 ≡ t → cond t 0 (k + 1) < 6
    by-test true e = omega arith
    by-test false e = let l = lt_of_le-ne (le_of_suc-le-suc h) (eqb-false k 5 e) in omega arith

module _ {rate n : ℕ} {p : Place} (s : Stands rate n p) where
  pub stands-sounds : sounds rate n ≡ is_on p.phase
  unfolding sounds
  stands-sounds =
      let e = total-more p.phase (lengths rate) in
      ap is_on (phase-at (lengths rate) p.phase (n % cycle_of rate) (omega arith) (omega arith))

  stands-below : n % cycle_of rate + p.left ≤ cycle_of rate
  unfolding cycle_of
  stands-below = let l = total-part (suc p.phase) (lengths rate) in omega arith

  -- within a phase
  next-within : 1 < p.left → Stands rate (suc n) (record { phase = p.phase; left = p.left - 1 })
  next-within h =
      let b = stands-below in
      let l : suc (n % cycle_of rate) < cycle_of rate = omega arith in
      let e : suc n % cycle_of rate ≡ suc (n % cycle_of rate) = suc-mod n (cycle_of rate) ∙ mod-eq_of_lt l in
      record { phase = s.phase; some = omega arith; within = omega arith; ends = omega arith }

  module _ (v : ValidRate rate) (one : p.left ≤ 1) where
    -- after the last sample of a phase but the last
    next-begins : p.phase < 5 → Stands rate (suc n) (record { phase = p.phase + 1; left = get_or (lengths rate) (p.phase + 1) 0 })
    unfolding cycle_of
    next-begins h =
        let k = p.phase in
        let some : 0 < get_or (lengths rate) (suc k) 0 = some-samples v (suc k) (omega arith) in
        let m : total (take (suc (suc k)) (lengths rate)) ≡ total (take (suc k) (lengths rate)) + get_or (lengths rate) (suc k) 0 = total-more (suc k) (lengths rate) in
        let t : total (take (suc (suc k)) (lengths rate)) ≤ cycle_of rate = total-part (suc (suc k)) (lengths rate) in
        let l : suc (n % cycle_of rate) < cycle_of rate = omega arith in
        let e : suc n % cycle_of rate ≡ suc (n % cycle_of rate) = suc-mod n (cycle_of rate) ∙ mod-eq_of_lt l in
        rw add-one (record { phase = omega arith; some = some; within = omega arith; ends = omega arith })

    -- after the last of a cycle
    next-cycle : p.phase ≡ 5 → Stands rate (suc n) (record { phase = 0; left = get_or (lengths rate) 0 0 })
    unfolding cycle_of
    next-cycle h =
        let m = total_first (lengths rate) in
        let t : total (take (suc p.phase) (lengths rate)) ≡ cycle_of rate = rw (h, six rate) in
        let l : suc (n % cycle_of rate) ≡ cycle_of rate = omega arith in
        let e : suc n % cycle_of rate ≡ 0 = suc-mod n (cycle_of rate) ∙ ap (λ (m : ℕ). m % cycle_of rate) l ∙ mod_self (cycle_of rate) in
        record { phase = omega arith; some = some-samples v 0 (omega arith); within = omega arith; ends = omega arith }

  pub stands-next : ValidRate rate → Stands rate (suc n) (next_place (lengths rate) p)
  unfolding next_place
  stands-next v = by_left (ltb 1 p.left) refl
    where
      again : p.left ≤ 1 → (t : Bool) → eqb p.phase 5 ≡ t → Stands rate (suc n) (record { phase = cond t 0 (p.phase + 1); left = get_or (lengths rate) (cond t 0 (p.phase + 1)) 0 })
      again h true e = next-cycle v h (eqb-true p.phase 5 e)
      again h false e = let d = eqb-false p.phase 5 e in next-begins v h (lt_of_le-ne (le_of_suc-le-suc s.phase) d)

      by_left : (t : Bool) → ltb 1 p.left ≡ t →
          Stands rate (suc n) (cond t (record { phase = p.phase; left = p.left - 1 }) (record { phase = next_phase p.phase; left = get_or (lengths rate) (next_phase p.phase) 0 }))
      by_left true e = next-within (ltb-true 1 p.left e)
      by_left false e = again (ltb-false 1 p.left e) (eqb p.phase 5) refl

-- the byte of a place, and places one after another
abbrev pub place_byte : Place → ℕ
place_byte p = byte_of (is_on p.phase)

module _ {rate : ℕ} (v : ValidRate rate) where
  pub stands_after : (i : ℕ) {n : ℕ} {p : Place} → Stands rate n p → Stands rate (n + i) (after (next_place (lengths rate)) i p)
  unfolding after
  stands_after zero s = rw add-zero s
  stands_after (suc i) s = rw (add-suc, ← suc-add) (stands_after i (stands-next s v))

  pub places-run : (len : ℕ) {n : ℕ} {p : Place} → Stands rate n p → cells_of (next_place (lengths rate)) place_byte len p ≡ samples_from rate n len
  unfolding given
  places-run zero s = refl
  places-run (suc len) s = rw (stands-sounds s, places-run len (stands-next s v))

  -- a buffer in which each cell has the byte of its place
  pub run-stored : {n : ℕ} {p : Place} → Stands rate n p → (cells : List ℕ) →
      sets cells 0 (cells_of (next_place (lengths rate)) place_byte (length cells) p) ≡ samples_from rate n (length cells)
  run-stored {n} {p} s cells =
      let l = length-cells (next_place (lengths rate)) place_byte (length cells) p in
      sets-front cells (cells_of (next_place (lengths rate)) place_byte (length cells) p) (length cells) l (omega arith)
      ∙ rw (drop-length, append-nil) (places-run (length cells) s)
