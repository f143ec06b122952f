-- Cells as text, as a loop goes through them: what is left to write is what there was to write. Assumes nothing.
use mathlib.Core.Path.{◌≡◌, sym}
use mathlib.Core.List.{List, [], ◌∷◌, ◌++◌}
use Prim.Native.Nat.{ℕ, ◌+◌, ◌*◌, ◌≤◌, ◌<◌}
use native.Mathlib.Nat.{add_comm, mul-zero, mul-suc}
use native.Mathlib.Numerals.{add-one}
use native.Mathlib.Omega.{arith}
use lib.ListN.{length, get_or, drop, drop_of_length-le, length-append}
use lib.Seq.{drop-cons}
use Rattle.hex_digits.specs.Hex.{newline, Laid, Wrote}
use Rattle.hex_digits.proofs.Texts.{Left, left-turn, left_end, length-hex_of, then, all}
use Rattle.replay_cells.specs.Cells.{cells_text, numbered_text}

module _ {A : Type 0} (text : A → List ℕ) where
  cells-one : (s : List A) (i : ℕ) (d : A) → i < length s → cells_text text (drop i s) ≡ text (get_or s i d) ++ cells_text text (drop (i + 1) s)
  unfolding cells_text
  cells-one s i d h = rw (add-one, drop-cons s i d h)

  cells-end : (s : List A) (i : ℕ) → length s ≤ i → cells_text text (drop i s) ≡ []
  unfolding cells_text
  cells-end s i h = rw (drop_of_length-le s h)

  -- where every cell has so many digits
  length-cells : (w : ℕ) → ((x : A) → length (text x) ≡ w) → (cells : List A) → length (cells_text text cells) ≡ w * length cells
  unfolding cells_text
  length-cells w e [] = sym (mul-zero w)
  length-cells w e (x ∷ cells) = rw (length-append, e x, length-cells w e cells, mul-suc) (add_comm w (w * length cells))

  -- where there is room for the line, all of it was laid
  pub numbered-all : (digits number w : ℕ) {before after : List ℕ} {next : ℕ} → ((x : A) → length (text x) ≡ w) → (cells : List A) → digits + w * length cells < 262144 → Laid before 0 (numbered_text digits number text cells) after next → Wrote before 0 (numbered_text digits number text cells) after next
  numbered-all digits number w e cells h t = all t (simp (length-append, length-hex_of) (omega (arith, length-cells w e cells)))

  -- a loop stands before cell i
  abbrev pub Going : List A → List ℕ → ℕ → List ℕ → ℕ → ℕ → Type 0
  Going cells before at after next i = Left before at (cells_text text cells) after next (cells_text text (drop i cells))

  pub going-turn : {before after new : List ℕ} {at next place : ℕ} (cells : List A) (i : ℕ) (d : A) → i < length cells → Going cells before at after next i → Laid after next (text (get_or cells i d)) new place → Going cells before at new place (i + 1)
  going-turn cells i d h g w = left-turn (rw (cells-one cells i d h) at g) w

  -- before the cells a number was written, and after them the line's end
  pub going_end : {first before after new number : List ℕ} {at next place : ℕ} (cells : List A) (i : ℕ) → length cells ≤ i → Laid first 0 number before at → Going cells before at after next i → Laid after next newline new place → Laid first 0 (number ++ cells_text text cells ++ newline) new place
  going_end cells i h n g w = then (then n (left_end (rw (cells-end cells i h) at g))) w
