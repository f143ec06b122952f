-- Requests that are left to a box of one call before its frames, and what is told of them: document 02, T-08. Assumes nothing.
use Rattle.std.specs.Prelude.{ℕ, zero, suc, ◌+◌, ◌*◌, ◌/◌, ◌≡◌, List, [], ◌∷◌, ℤ, length, None, Option, Some}
use Rattle.std.proofs.lemmas.List.Edits.{sets}
use Rattle.buffers.specs.Buffers.{to_i16}
use Rattle.entering.specs.declared.Lined.{Lined}
use Rattle.error.specs.Numbers.{number_of}
use Rattle.error.specs.Told.{told, Told, value, and_then, number_in}
use Rattle.laws.specs.Runs.{after, given}
use Rattle.requests.specs.Slices.{big16_at, request_at, requests_of}
use Rattle.sounder.specs.Calls.{Outcome, left_in}
use Rattle.sounder.specs.Frames.{frames}
use Rattle.sounder.specs.Requests.{played_all}
use Rattle.sounder.specs.Sounders.{After}
use Rattle.waiting.specs.Lines.{in_line, label_cells}
use Rattle.waiting.specs.declared.Waiting.{Waiting}
use Rattle.error.specs.declared.AudioError.{AudioError}

-- ---- a list of them in a slice of bytes

-- label (2), then the ten bytes of a request
abbrev pub leaving_at : List ℕ → ℕ → Waiting
leaving_at l k = record { label = big16_at l k; request = request_at l (k + 2) }

-- n of them from the one of index i on
unfoldable pub leavings_from : List ℕ → ℕ → ℕ → List Waiting
leavings_from l i zero = []
leavings_from l i (suc n) = leaving_at l (12 * i) ∷ leavings_from l (suc i) n

-- every whole one; fewer than twelve bytes at the end are none
abbrev pub leavings_of : List ℕ → List Waiting
leavings_of l = leavings_from l 0 (length l / 12)

-- ---- leaving them one after another

abbrev pub leaving : Lined → Waiting → After Outcome
leaving s w = left_in s w.label w.request

unfoldable pub left_all : Lined → List Waiting → Lined
left_all s [] = s
left_all s (w ∷ ws) = left_all (leaving s w).lined ws

-- the number of each: 0, or why it was turned down
unfoldable pub numbers_of : Lined → List Waiting → List ℕ
numbers_of s [] = []
numbers_of s (w ∷ ws) = number_in (told (leaving s w).gave) ∷ numbers_of (leaving s w).lined ws

-- what leaving them promises; numbers go into cells from the front on, as far as there are cells
pub record LeavesEach (s : Lined) (left cells : List ℕ) (after : Lined) (told : List ℕ) : Type 0 where
  pub box : after ≡ left_all s (leavings_of left)
  pub numbers : told ≡ sets cells 0 (numbers_of s (leavings_of left))

-- ---- what is told

-- the number and the label of the latest that was dropped, 0 and 0 where none was
abbrev pub dropped_cells : Option (AudioError × ℕ) → List ℕ
dropped_cells None = 0 ∷ 0 ∷ []
dropped_cells (Some (e, label)) = number_of e ∷ label ∷ []

-- the cells that are lent: for the numbers, for mono frames, and for what waits or was dropped after these
pub record Lent : Type 0 where
  pub numbers : List ℕ
  pub out : List ℤ
  pub labels : List ℕ
  pub count : ℕ
  pub dropped : List ℕ

abbrev pub lent : List ℕ → List ℤ → List ℕ → ℕ → List ℕ → Lent
lent numbers out labels count dropped = record { numbers = numbers; out = out; labels = labels; count = count; dropped = dropped }

-- of a box s, to which ws are left: a frame in each cell of `out`, and the labels that then wait, next first
abbrev pub waited_out : List ℕ → List Waiting → Lent → Lined → Lent
waited_out bytes ws cells s =
    let f = frames bytes in
    let first = left_all s ws in
    let last = after f.mono (length cells.out) first in
    lent (sets cells.numbers 0 (numbers_of s ws)) (given f.mono (λ s. to_i16 (f.pcm s) ∷ []) (length cells.out) first)
    (label_cells (in_line last.line))
    last.line.count
    (dropped_cells last.kept)

-- the requests played, then the others left, in a box that is readied; or why it is not
abbrev pub waits_told : Told Lined → List ℕ → List ℕ → List ℕ → Lent → Told Lent
waits_told ready bytes requests left cells =
    and_then ready (λ s. value (waited_out bytes (leavings_of left) cells (played_all s bytes (requests_of requests))))
