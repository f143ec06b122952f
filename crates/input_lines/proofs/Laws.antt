-- A line byte by byte, and how far it reads. Assumes nothing.
use mathlib.Core.Path.{◌≡◌, refl}
use mathlib.Core.Bool.{Bool, true, false, cond, ◌||◌}
use mathlib.Core.List.{List, [], ◌∷◌}
use Prim.Native.Nat.{ℕ, suc, ◌+◌, ◌≤◌, ◌<◌}
use native.Mathlib.Numerals.{add-one}
use native.Mathlib.Omega.{arith}
use borrow.Author.Tests.{eq-eqb, ne_eqb, le-leb, lt-leb}
use lib.Dec.{eqb, leb}
use lib.ListN.{length, set, get_or, drop, length-drop, drop_of_length-le}
use lib.Seq.{drop-cons}
use Rattle.input_lines.specs.Lines.{Line, lined, Fills}
use Rattle.input_lines.specs.declared.Filled.{Filled}

module _ (cells : List ℕ) (n : ℕ) (chunk : List ℕ) (i : ℕ) where
  -- what is known of the line at the chunk's end, at a newline, with no room left, and at any other byte
  pub at-end : length chunk ≤ i → lined cells n i (drop i chunk) ≡ record { cells = cells; count = n; next = i; ended = false }
  unfolding lined
  at-end h = rw (drop_of_length-le chunk h)

  pub at-newline : i < length chunk → get_or chunk i 0 ≡ 10
      → lined cells n i (drop i chunk) ≡ record { cells = cells; count = n; next = i + 1; ended = true }
  unfolding lined
  at-newline h e = rw (drop-cons chunk i 0 h, eq-eqb (get_or chunk i 0) 10 e, add-one i)

  pub no_room : i < length chunk → length cells ≤ n
      → lined cells n i (drop i chunk) ≡ record { cells = cells; count = n; next = i + 1; ended = true }
  unfolding lined
  no_room h r = rw (drop-cons chunk i 0 h, le-leb (length cells) n r, add-one i) (by (eqb (get_or chunk i 0) 10))
    where
      by : (t : Bool) → cond (t || true) (record { cells = cells; count = n; next = suc i; ended = true }) (lined (set cells n (get_or chunk i 0)) (suc n) (suc i) (drop (suc i) chunk)) ≡ record { cells = cells; count = n; next = suc i; ended = true }
      by true = refl
      by false = refl

  pub one_more : i < length chunk → (get_or chunk i 0 ≡ 10 → ⊥) → n < length cells
      → lined (set cells n (get_or chunk i 0)) (n + 1) (i + 1) (drop (i + 1) chunk) ≡ lined cells n i (drop i chunk)
  unfolding lined
  one_more h e r = rw (drop-cons chunk i 0 h, ne_eqb (get_or chunk i 0) 10 e, lt-leb (length cells) n r, add-one i, add-one n)

pub fills : {l : Line} {cells : List ℕ} {n i : ℕ} {t : Bool} → l ≡ record { cells = cells; count = n; next = i; ended = t }
    → Fills l cells (record { line = n; next = i; ended = t })
fills e = record { cells = rw e; count = rw e; next = rw e; ended = rw e }

-- a place from lo to hi
abbrev Within : ℕ → ℕ → Line → Type 0
Within lo hi l = (lo ≤ l.next) × (l.next ≤ hi)

either : (lo hi : ℕ) (x y : Line) (t : Bool) → Within lo hi x → Within lo hi y → Within lo hi (cond t x y)
either lo hi x y true a b = a
either lo hi x y false a b = b

-- how far bytes are read: one at least where there is one, and no more than there are
reads : (cells : List ℕ) (n i : ℕ) (bs : List ℕ) → Within i (i + length bs) (lined cells n i bs)
unfolding lined
reads cells n i [] = (omega arith, omega arith)
reads cells n i (b ∷ bs) =
    let k = reads (set cells n b) (suc n) (suc i) bs in
    either i (i + length (b ∷ bs)) (record { cells = cells; count = n; next = suc i; ended = true }) (lined (set cells n b) (suc n) (suc i) bs)
    (eqb b 10 || leb (length cells) n) (omega arith, omega arith) (omega arith, omega arith)

reads-one : (cells : List ℕ) (n i b : ℕ) (bs : List ℕ) → Within (suc i) (suc i + length bs) (lined cells n i (b ∷ bs))
unfolding lined
reads-one cells n i b bs =
    either (suc i) (suc i + length bs) (record { cells = cells; count = n; next = suc i; ended = true }) (lined (set cells n b) (suc n) (suc i) bs)
    (eqb b 10 || leb (length cells) n) (omega arith, omega arith) (reads (set cells n b) (suc n) (suc i) bs)

-- a call that begins within the chunk reads on and stays within it
pub reads_on : (cells : List ℕ) (n : ℕ) (chunk : List ℕ) (i : ℕ) {after : List ℕ} {r : Filled} → i < length chunk
    → Fills (lined cells n i (drop i chunk)) after r → (i < r.next) × (r.next ≤ length chunk)
reads_on cells n chunk i {after} {r} h f =
    let k = reads-one cells n i (get_or chunk i 0) (drop (suc i) chunk) in
    let e : (lined cells n i (drop i chunk)).next ≡ (lined cells n i (get_or chunk i 0 ∷ drop (suc i) chunk)).next = rw (drop-cons chunk i 0 h) in
    let d = length-drop (suc i) chunk in
    (omega (arith, f.next), omega (arith, f.next))
