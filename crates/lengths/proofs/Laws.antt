-- Laws of lengths with what is left over. Assumes nothing.
use Prim.Native.Nat.{ℕ, zero, suc, ◌+◌, ◌*◌, ◌/◌, ◌%◌, ◌≤◌, ◌<◌, min}
use native.Mathlib.Nat.{add-mul, zero-mul}
use native.Mathlib.Omega.{arith}
use mathlib.Core.Path.{◌≡◌, refl, ◌∙◌}
use mathlib.Core.List.{List, [], ◌∷◌, ◌++◌}
use borrow.Author.Tests.{le-ltb}
use lib.ListN.{length, take, get_or}
use lib.Seq.{take-suc}
use Rattle.error.specs.Told.{value}
use Rattle.laws.specs.Lists.{All}
use Rattle.lengths.specs.Lengths.{parted, carrying, in_turn, left_over, samples_in, total_ms, total_of, Near, NoDrift}
use Rattle.lengths.specs.declared.Length.{Length}

-- at an allowed rate a call gives a length: those in turn are calls
pub carrying-given : (ms rate last : ℕ) → rate ≤ 65537 → carrying ms rate last ≡ value (parted (ms * rate + last))
unfolding carrying
carrying-given ms rate last h = rw (le-ltb 65537 rate h)

rest-small : (n : ℕ) → n % 1000 < 1000
rest-small n = omega arith

-- "ms × rate = 1000 × samples + remainder, remainder below 1,000"
pub parted-whole : (n : ℕ) → 1000 * (parted n).samples + (parted n).remainder ≡ n
unfolding parted
parted-whole n = omega arith

pub parted-rest : (n : ℕ) → (parted n).remainder < 1000
unfolding parted
parted-rest n = rest-small n

-- so many thousandths in two parts, the rest of the first carried on
carried : (a b : ℕ) → a / 1000 + (b + a % 1000) / 1000 ≡ (a + b) / 1000
carried a b = omega arith

carried-rest : (a b : ℕ) → (b + a % 1000) % 1000 ≡ (a + b) % 1000
carried-rest a b = omega arith

module _ (rate : ℕ) where
  -- a first length and the others
  both : (ms last rest : ℕ) → ms * rate + last + rest * rate ≡ (ms + rest) * rate + last
  both ms last rest = rw (add-mul ms rest rate) (omega arith)

  -- begun with a remainder below 1,000
  turn-samples : (last : ℕ) (l : List ℕ) → last < 1000 → samples_in (in_turn rate last l) ≡ (total_ms l * rate + last) / 1000
  unfolding in_turn samples_in total_ms parted
  turn-samples last [] h = rw (zero-mul rate) (omega arith)
  turn-samples last (ms ∷ l) h =
      rw (turn-samples ((ms * rate + last) % 1000) l (rest-small (ms * rate + last)), carried (ms * rate + last) (total_ms l * rate), both ms last (total_ms l))

  turn-rest : (last : ℕ) (l : List ℕ) → last < 1000 → left_over rate last l ≡ (total_ms l * rate + last) % 1000
  unfolding left_over total_ms parted
  turn-rest last [] h = rw (zero-mul rate) (omega arith)
  turn-rest last (ms ∷ l) h =
      rw (turn-rest ((ms * rate + last) % 1000) l (rest-small (ms * rate + last)), carried-rest (ms * rate + last) (total_ms l * rate), both ms last (total_ms l))

  turn_small : (last : ℕ) (l : List ℕ) → All (λ (r : Length). r.remainder < 1000) (in_turn rate last l)
  unfolding in_turn parted
  turn_small last [] = tt
  turn_small last (ms ∷ l) = (rest-small (ms * rate + last), turn_small ((ms * rate + last) % 1000) l)

  -- the first k answers are those to the first k lengths
  turn-take : (k last : ℕ) (l : List ℕ) → take k (in_turn rate last l) ≡ in_turn rate last (take k l)
  unfolding in_turn
  turn-take zero last l = refl
  turn-take (suc k) last [] = refl
  turn-take (suc k) last (ms ∷ l) = rw (turn-take k _ l)

  near : (n : ℕ) → Near (1000 * ((n + 0) / 1000)) n
  near n = record { most = omega arith; least = omega arith }

  pub no-drift : (l : List ℕ) → NoDrift rate l
  no-drift l =
      let e : total_ms l * rate + 0 ≡ total_ms l * rate = omega arith in
      record {
        samples = turn-samples 0 l (omega arith) ∙ rw e;
        rest = turn-rest 0 l (omega arith) ∙ rw e;
        small = turn_small 0 l;
        near = λ k. rw (turn-take k 0 l, turn-samples 0 (take k l) (omega arith)) (near (total_ms (take k l) * rate));
      }

-- the total of a list is what its lengths give in turn
pub total-in-turn : (rate : ℕ) (l : List ℕ) →
    total_of l rate ≡ record { samples = min (samples_in (in_turn rate 0 l)) 18446744073709551615; remainder = left_over rate 0 l }
unfolding total_of
total-in-turn rate l = let d = no-drift rate l in rw (d.samples, d.rest)

-- ---- the total of a list's first lengths, one more at a time
total-append : (l m : List ℕ) → total_ms (l ++ m) ≡ total_ms l + total_ms m
unfolding total_ms
total-append [] m = omega arith
total-append (x ∷ l) m = rw (total-append l m) (omega arith)

pub total-step : (l : List ℕ) (i rate : ℕ) → i < length l → total_ms (take (suc i) l) * rate ≡ total_ms (take i l) * rate + get_or l i 0 * rate
unfolding total_ms
total-step l i rate h =
    rw (take-suc l i 0 h, total-append (take i l) (get_or l i 0 ∷ []))
    (let e : get_or l i 0 + 0 ≡ get_or l i 0 = omega arith in rw (e, add-mul (total_ms (take i l)) (get_or l i 0) rate))
