-- A list of requests in a slice of bytes: ten bytes each, as record 13 of the replay format has them without its code. Assumes nothing.
use Rattle.std.specs.Prelude.{ℕ, zero, suc, ◌+◌, ◌*◌, ◌/◌, ◌≡◌, List, [], ◌∷◌, length, get_or}
use Rattle.std.proofs.lemmas.List.Edits.{sets}
use Rattle.error.specs.Told.{Told, value, refused}
use Rattle.start.specs.declared.Request.{Request}
use Rattle.requests.specs.Players.{Player, played_all, Demand3, Ranks}

-- a big-endian number of two bytes
abbrev pub big16_at : List ℕ → ℕ → ℕ
big16_at l k = 256 * get_or l k 0 + get_or l (k + 1) 0

-- id (2), attack ms (2), decay ms (2), sustain (1), release ms (2), priority (1)
unfoldable pub request_at : List ℕ → ℕ → Request
request_at l k =
    record {
      id = big16_at l k;
      adsr =
          record {
            attack_ms = big16_at l (k + 2);
            decay_ms = big16_at l (k + 4);
            sustain_q8 = get_or l (k + 6) 0;
            release_ms = big16_at l (k + 7);
          };
      priority = get_or l (k + 9) 0;
    }

-- n requests from the one of index i on
unfoldable pub requests_from : List ℕ → ℕ → ℕ → List Request
requests_from l i zero = []
requests_from l i (suc n) = request_at l (10 * i) ∷ requests_from l (suc i) n

-- every whole request; fewer than ten bytes at the end are none
abbrev pub requests_of : List ℕ → List Request
requests_of l = requests_from l 0 (length l / 10)

-- a request's outcome as a number of 16 bits: the voice that it got, or 256 × the refusal's number and 255
abbrev pub outcome_cell : Told ℕ → ℕ
outcome_cell (value i) = i
outcome_cell (refused n) = 256 * n + 255

module _ {State : Type 0} (b : Player State) where
  -- the outcomes of requests, one after another
  unfoldable pub outcomes_of : State → List ℕ → List Request → List ℕ
  outcomes_of s bytes [] = []
  outcomes_of s bytes (r ∷ rs) = outcome_cell (b.told s bytes r) ∷ outcomes_of (b.next s bytes r) bytes rs

module _ {State : Type 0} (b : Player State) (Valid : State → Type 0) where
  -- what playing them all promises, Valid being what every state of the box keeps
  pub record PlaysAll (s : State) (bytes requests : List ℕ) (after : State) : Type 0 where
    pub same : after ≡ played_all b s bytes (requests_of requests)
    pub valid : Valid after
    pub demand : Ranks b s → Demand3 b s bytes (requests_of requests) after

  -- playing them all and telling each one's outcome, in the cells from the front on as far as there are cells
  pub record PlaysEach (s : State) (bytes requests cells : List ℕ) (after : State) (told : List ℕ) : Type 0 where
    pub plays : PlaysAll s bytes requests after
    pub outcomes : told ≡ sets cells 0 (outcomes_of b s bytes (requests_of requests))
