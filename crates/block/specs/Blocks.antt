-- What a block of frames gives: the frames one after another. Assumes nothing.
use Rattle.std.specs.Prelude.{ℕ, ◌≡◌, Bool, true, false, List, [], ◌∷◌, ◌++◌, ℤ, drop}
use Rattle.frame.specs.Presents.{mono_next, stereo_next, pcm_of, left_side, right_side}
use Rattle.laws.specs.Made.{Made}
use Rattle.laws.specs.Runs.{after, given}
use Rattle.marks.specs.declared.Present.{Present}
use Rattle.mixer.specs.Mixers.{Valid}

-- a frame with two sides, or a mono frame: its step, and the sample of its left or only side
abbrev pub next_of : Bool → Present → Present
next_of true = stereo_next
next_of false = mono_next

abbrev pub left_of : Bool → Present → ℤ
left_of true = left_side
left_of false = pcm_of

-- n samples from the front on, the cells after them as they were
abbrev pub front : (Present → Present) → (Present → ℤ) → ℕ → Present → List ℤ → List ℤ
front step sample n p was = given step (λ p. sample p ∷ []) n p ++ drop n was

-- the right side's cells, which mono frames leave alone
abbrev pub right_cells : Bool → ℕ → Present → List ℤ → List ℤ
right_cells true n p was = front stereo_next right_side n p was
right_cells false n p was = was

-- frames ask no more of the marks than that they are there
abbrev pub ValidInside : Present → Type 0
ValidInside p = Valid p.mixer

-- n frames: the state after them, and the cells
pub record Block (sides : Bool) (p : Present) (n : ℕ) (left_was right_was : List ℤ) (r : Present) (left_is right_is : List ℤ) : Type 0 where
  pub state : Made ValidInside (after (next_of sides) n p) r
  pub left : left_is ≡ front (next_of sides) (left_of sides) n p left_was
  pub right : right_is ≡ right_cells sides n p right_was
