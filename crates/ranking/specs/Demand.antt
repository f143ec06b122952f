-- The laws of an allocation, and demand 3 as a claim about a box. Assumes nothing.
use Rattle.std.specs.Prelude.{ℕ, ◌≤◌, ◌<◌, ◌≡◌, Bool, true, false, length, take}
use mathlib.Core.List.{List, ◌++◌, Memᴰ, Perm}
use Rattle.std.proofs.Math.Option.{Option, none, some}
use Rattle.std.proofs.Math.ListN.{get_elem?}
use Rattle.ranking.specs.Falling.{falling}
use Rattle.laws.specs.Lists.{All}
use Rattle.ranking.specs.Box.{Box, stored, priorities, asks, handed, after_all, last_got}

module _ {Voice : Type 0} (audible : Voice → Bool) (priority : Voice → ℕ) where
  -- What may be given to a request of priority p by voices vs, whichever of equals it is: where one is inaudible, an inaudible one;
  -- else one of lowest priority if that is strictly below the request; else none.
  pub data Allowed (vs : List Voice) (p : ℕ) : Option ℕ → Type 0 where
    free : {i : ℕ} {v : Voice} → get_elem? vs i ≡ some v → audible v ≡ false → Allowed vs p (some i)
    taken :
        {i : ℕ} {v : Voice} → All (λ w. audible w ≡ true) vs → get_elem? vs i ≡ some v → All (λ w. priority v ≤ priority w) vs → priority v < p
        → Allowed vs p (some i)
    refused : All (λ w. audible w ≡ true) vs → All (λ w. p ≤ priority w) vs → Allowed vs p none

-- Kept is what a box keeps of a state throughout: its policy, its bank
module _ {State Voice Request : Type 0} (b : Box State Voice Request) (Kept : State → Type 0) where
  -- the laws from which demand 3 follows
  pub record Lawful : Type 0 where
    pub allows : (s : State) (p : ℕ) → Kept s → Allowed b.audible b.priority (b.voices s) p (b.choice s p)
    -- a request that is handed a place leaves its voice there, and nothing else of the voices changes
    pub stores : (s : State) (r : Request) → Kept s → b.voices (b.next s r) ≡ stored (b.voices s) (handed b s r) (b.started r)
    pub stays : (s : State) (r : Request) → Kept s → Kept (b.next s r)
    pub sounds : (r : Request) → b.sound r ≡ true → b.audible (b.started r) ≡ true
    pub keeps : (r : Request) → b.sound r ≡ true → b.priority (b.started r) ≡ b.asked r

  -- Demand 3, for a state s and every list rs of requests, refused ones among them.
  pub record Demand (s : State) (rs : List Request) : Type 0 where
    -- "Afterwards the priorities of the audible voices, in falling order, equal the first N, or all where fewer, of these put together
    -- in falling order, repeats counted: those of the voices audible before and those of the list's sound requests."
    pub ranked : falling (priorities b (after_all b s rs)) ≡ take (length (b.voices s)) (falling (priorities b s ++ asks b rs))
    -- "A voice that the list has not handed out is unchanged"
    pub unchanged : (i : ℕ) → last_got b i s rs ≡ none → get_elem? (b.voices (after_all b s rs)) i ≡ get_elem? (b.voices s) i
    -- "one that it has is as 01's entry start makes it for the last request that got it"
    pub last : (i : ℕ) (r : Request) → last_got b i s rs ≡ some r → get_elem? (b.voices (after_all b s rs)) i ≡ some (b.started r)
    -- and that request is a sound one of the list
    pub got : (i : ℕ) (r : Request) → last_got b i s rs ≡ some r → (b.sound r ≡ true) × Memᴰ r rs
    -- "So from the same engine and bytes the same requests in any other order leave the same priorities."
    pub any_order : (rs' : List Request) → Perm rs rs' → falling (priorities b (after_all b s rs)) ≡ falling (priorities b (after_all b s rs'))
    -- no voice is lost or gained
    pub voices : length (b.voices (after_all b s rs)) ≡ length (b.voices s)
