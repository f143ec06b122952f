-- Inner: cells of a block, written, added to, counted up. Assumes nothing.
use Rattle.std.specs.Prelude.{ℕ, suc, ◌+◌, ◌-◌, ◌*◌, ◌≤◌, ◌<◌, ◌≡◌, Bool, cond, List, ltb, ℤ, pos, nat_abs, ◌+ℤ◌, length, get_or, None, Option, Some}
use Rattle.fixed.specs.Fixed.{gained, limited}
use Rattle.frame.specs.Frames.{crossed}
use Rattle.laws.specs.Whole.{trunc_div}

-- the cells from..to, `to` left out, hold f of their places; the others hold what they held
pub record Written {A : Type 0} (zero : A) (f : ℕ → A) (from to : ℕ) (was is : List A) : Type 0 where
  pub size : length is ≡ length was
  pub there : (j : ℕ) → from ≤ j → j < to → get_or is j zero ≡ f j
  pub before : (j : ℕ) → j < from → get_or is j zero ≡ get_or was j zero
  pub behind : (j : ℕ) → to ≤ j → get_or is j zero ≡ get_or was j zero

-- no cell is larger than b
abbrev pub Within : ℕ → List ℤ → Type 0
Within b l = (j : ℕ) → nat_abs (get_or l j (pos 0)) ≤ b

abbrev pub AtMost : ℕ → List ℕ → Type 0
AtMost b l = (j : ℕ) → get_or l j 0 ≤ b

-- a sample under a gain of up to 256: at 256 the sample itself
pub record Scaled (sample : ℤ) (gain : ℕ) (r : ℤ) : Type 0 where
  pub value : r ≡ gained sample gain
  pub small : nat_abs r ≤ 128

-- the first n samples, each under the gain, added to the sums
pub record Added (samples : List ℤ) (gain n : ℕ) (was is : List ℤ) : Type 0 where
  pub cells : Written (pos 0) (λ j. get_or was j (pos 0) +ℤ gained (get_or samples j (pos 0)) gain) 0 n was is
  pub grown : (b : ℕ) → Within b was → Within (b + 128) is

-- the first n counts are one more
pub record Tallied (n : ℕ) (was is : List ℕ) : Type 0 where
  pub cells : Written 0 (λ j. suc (get_or was j 0)) 0 n was is
  pub grown : (b : ℕ) → AtMost b was → AtMost (suc b) is

-- "divides the sum, truncated, by the number of samples given when that exceeds 1"
unfoldable pub mean_of : ℤ → ℕ → ℤ
mean_of sum count = cond (ltb 1 count) (trunc_div sum count) sum

-- "limit, apply master gain"
abbrev pub leveled_by : ℕ → ℤ → ℤ
leveled_by gain sum = gained (limited sum) gain

-- the means, leveled, of sums and counts that start at cell 0, where they are written from cell `at` on
abbrev pub mean_at : ℕ → List ℤ → List ℕ → ℕ → ℕ → ℤ
mean_at gain sums counts at j = leveled_by gain (mean_of (get_or sums (j - at) (pos 0)) (get_or counts (j - at) 0))

-- an answer, from whether there is a sample
abbrev pub answer_of : Bool → ℤ → Option ℤ
answer_of there sample = cond there (Some sample) None

-- the answer in frame j of a voice that gave the first n cells
abbrev pub cell_answer : List ℤ → ℕ → ℕ → Option ℤ
cell_answer cells n j = answer_of (ltb j n) (get_or cells j (pos 0))

-- frame j of a fade, from the two voices' answers; t is what it was before frame 0
abbrev pub faded_at : ℕ → ℕ → ℕ → List ℤ → ℕ → List ℤ → ℕ → ℕ → ℤ
faded_at gain t step first n second n2 j = leveled_by gain (crossed (t + suc j * step) (cell_answer first n j) (cell_answer second n2 j))

-- a fade at t, by steps, goes on after len frames
abbrev pub Steady : ℕ → ℕ → ℕ → Type 0
Steady t step len = 0 < len → t + len * step < 255
