-- Bytes held back, a line's cells behind them, and when a header is given. Assumes nothing.
use Rattle.std.proofs.Common.{◌≡◌, ℕ, ◌+◌, ◌*◌, ◌/◌, ◌≤◌, Bool, true, false, cond, leb, List, ◌++◌, length, take, drop, ℤ, refl, ◌∙◌, append_assoc, arith, length-append, take_all, take_at, leb-true}
use Rattle.wav.specs.Wav.{cell_bytes, fitting, Laid}
use Rattle.wav.proofs.Bytes.{length-cells}
use Rattle.wav.proofs.Files.{fits-some, fits-none}
use Rattle.render.specs.Files.{held_count}

few : (t : Bool) (held : ℕ) → (t ≡ true → held ≤ 57344) → cond t held 0 ≤ 57344
few true held h = h refl
few false held h = omega arith

-- a header is given where its numbers fit
pub ruleset headers = (fits-some, fits-none)

-- so that a line's cells have room after them
pub few-held : (held : ℕ) → held_count held ≤ 57344
few-held held = few (leb held 57344) held (leb-true held 57344)

-- cells laid into a space that has room for all of them
module _ (space : List ℕ) (cells : List ℤ) (room : 2 * length cells ≤ length space) where
  all_fit : fitting cells space ≡ cells
  all_fit = take_all (length space / 2) cells (omega arith)

  pub got-all : {part : List ℕ} {got : ℕ} → Laid (cell_bytes (fitting cells space)) space part got → got ≡ 2 * length cells
  got-all d = d.count ∙ rw (all_fit, length-cells cells)

  -- stand behind what stood before the space
  pub behind : (front rest : List ℕ) {part : List ℕ} {got at : ℕ} → length front ≡ at → Laid (cell_bytes (fitting cells space)) space part got
      → take (at + got) (front ++ (part ++ rest)) ≡ front ++ cell_bytes cells
  behind front rest {part} {got} {at} e d =
      let l = rw all_fit at d in
      let after = drop (length (cell_bytes cells)) space ++ rest in
      let n : length (front ++ cell_bytes cells) ≡ at + got = omega (arith, length-append front (cell_bytes cells), l.count) in
      let s : front ++ (part ++ rest) ≡ (front ++ cell_bytes cells) ++ after = rw (l.content, append_assoc front (cell_bytes cells) after, append_assoc (cell_bytes cells)) in
      rw s (take_at (front ++ cell_bytes cells) after (at + got) n)
