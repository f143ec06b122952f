-- Document 02, T-10: "A day of bells drifts because each length drops part of a sample." Assumes nothing.
use Rattle.std.specs.Prelude.{ℕ, ◌+◌, ◌*◌, ◌/◌, ◌%◌, ◌≤◌, ◌<◌, min, ◌≡◌, cond, List, [], ◌∷◌, ltb, take}
use Rattle.laws.specs.Lists.{All}
use Rattle.error.specs.Told.{Told, value, refused}
use Rattle.lengths.specs.declared.Length.{Length}
use Rattle.lengths.specs.declared.Total.{Total}

-- "both the whole samples and the remainder in thousandths": of so many thousandths of a sample
unfoldable pub parted : ℕ → Length
parted thousandths = record { samples = thousandths / 1000; remainder = thousandths % 1000 }

-- "A rate above 65,537 gets number 2."
abbrev pub at_rate : {A : Type 0} → ℕ → A → Told A
at_rate rate x = cond (ltb 65537 rate) (refused 2) (value x)

-- "A carrying form adds the last remainder, any 32-bit number, before it divides."
unfoldable pub carrying : ℕ → ℕ → ℕ → Told Length
carrying ms rate last = at_rate rate (parted (ms * rate + last))

-- "so that ms × rate = 1000 × samples + remainder, remainder below 1,000"
unfoldable pub length_of : ℕ → ℕ → Told Length
length_of ms rate = at_rate rate (parted (ms * rate))

-- "any list of lengths at one rate": each gets the remainder that the one before gave
unfoldable pub in_turn : ℕ → ℕ → List ℕ → List Length
in_turn rate last [] = []
in_turn rate last (ms ∷ rest) = let l = parted (ms * rate + last) in l ∷ in_turn rate l.remainder rest

-- what is left over after all of them
unfoldable pub left_over : ℕ → ℕ → List ℕ → ℕ
left_over rate last [] = last
left_over rate last (ms ∷ rest) = left_over rate (parted (ms * rate + last)).remainder rest

-- all the samples that they give
unfoldable pub samples_in : List Length → ℕ
samples_in [] = 0
samples_in (l ∷ rest) = l.samples + samples_in rest

-- the total in milliseconds
unfoldable pub total_ms : List ℕ → ℕ
total_ms [] = 0
total_ms (ms ∷ rest) = ms + total_ms rest

-- "the whole samples of the total, with the exact rest", in one call. The samples are held to 64 bits, which no list in a memory reaches.
unfoldable pub total_of : List ℕ → ℕ → Total
total_of lengths rate =
    let all = total_ms lengths * rate in
    record { samples = min (all / 1000) 18446744073709551615; remainder = all % 1000 }

-- not above the exact value, and less than a sample, 1,000 thousandths, below it
pub record Near (given exact : ℕ) : Type 0 where
  pub most : given ≤ exact
  pub least : exact < given + 1000

-- "For any list of lengths at one rate, begun with remainder 0, the samples given are the whole samples of the total, with the exact rest."
pub record NoDrift (rate : ℕ) (lengths : List ℕ) : Type 0 where
  pub samples : samples_in (in_turn rate 0 lengths) ≡ total_ms lengths * rate / 1000
  pub rest : left_over rate 0 lengths ≡ total_ms lengths * rate % 1000
  -- each remainder that is carried on is below 1,000
  pub small : All (λ l. l.remainder < 1000) (in_turn rate 0 lengths)
  -- after any number of them the samples given so far are the exact value, its part of a sample left out
  pub near : (k : ℕ) → Near (1000 * samples_in (take k (in_turn rate 0 lengths))) (total_ms (take k lengths) * rate)
