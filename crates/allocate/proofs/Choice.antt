-- The allocation as its code goes: a free voice, else by the policy. Assumes nothing.
use Prim.Native.Nat.{ℕ, zero, suc, ◌≤◌, ◌<◌}
use mathlib.Core.Path.{◌≡◌, refl, ap}
use mathlib.Core.Bool.{Bool, true, false}
use native.Mathlib.Omega.{arith}
use lib.ListN.{length, length-take, get_elem?}
use Rattle.error.specs.Told.{Told, value, refused}
use Rattle.laws.specs.Lists.{All}
use Rattle.ranking.specs.Demand.{Allowed, free}
use Rattle.ranking.specs.Demand as D
use Rattle.ranking.proofs.Oldest.{oldest-allowed}
use Rattle.ranking.proofs.Places.{at_length}
use Rattle.ranking.proofs.Rule.{free-place, lowest-place}
use mathlib.Core.List.{List, [], ◌∷◌, map}
use mathlib.Core.Option.{Option, none, some, or_else}
use Rattle.ranking.specs.Rule.{first_free, first_lowest, lowest_priority, free_only}
use Rattle.voice.specs.Voices.{audible}
use Rattle.voice.specs.declared.Voice.{Voice}
use Rattle.mixer.specs.declared.Mixer.{Mixer}
use Rattle.mixer.specs.declared.VoiceStealingPolicy.{VoiceStealingPolicy}
use Rattle.mixer.specs.declared.VoiceStealingPolicy.TheVariants as P
use Rattle.mixer.specs.Mixers.{voices_of}
use Rattle.marks.specs.declared.Present.{Present}
use Rattle.allocate.proofs.Keyed.{ranks-length, ranks-voices}
use Rattle.allocate.specs.Allocation.{priority_of, place_of, chosen, allocated, with_ranks, chosen_oldest, oldest_in, allocated_oldest, allocated_in}

-- the other where there is none
abbrev or_place : Told ℕ → Told ℕ → Told ℕ
or_place (value i) other = value i
or_place (refused n) other = other

abbrev taken : VoiceStealingPolicy → List Voice → ℕ → Told ℕ
taken P.LowestPriorityOldest vs priority = place_of (first_lowest priority_of vs priority)
taken P.FreeChannelOnly vs priority = refused 5

place-or : (a b : Option ℕ) → place_of (or_else a b) ≡ or_place (place_of a) (place_of b)
unfolding or_else
place-or none b = refl
place-or (some i) b = refl

or-none : (a : Option ℕ) → place_of a ≡ or_place (place_of a) (refused 5)
or-none none = refl
or-none (some i) = refl

by-policy : (policy : VoiceStealingPolicy) (vs : List Voice) (priority : ℕ)
    → place_of (chosen policy vs priority) ≡ or_place (place_of (first_free audible vs)) (taken policy vs priority)
unfolding lowest_priority free_only
by-policy P.LowestPriorityOldest vs priority = place-or (first_free audible vs) (first_lowest priority_of vs priority)
by-policy P.FreeChannelOnly vs priority = or-none (first_free audible vs)

-- what the first search finds, and then the policy's
module _ (m : Mixer) (priority : ℕ) where
  pub allocated-free : (i : ℕ) → place_of (first_free audible (voices_of m)) ≡ value i → allocated m priority ≡ value i
  unfolding allocated
  allocated-free i h = rw (by-policy m.stealing_policy (voices_of m) priority, h)

  pub allocated-taken : place_of (first_free audible (voices_of m)) ≡ refused 5 → m.stealing_policy ≡ P.LowestPriorityOldest
      → allocated m priority ≡ place_of (first_lowest priority_of (voices_of m) priority)
  unfolding allocated
  allocated-taken h p = rw (by-policy m.stealing_policy (voices_of m) priority, h, p)

  pub allocated-none : place_of (first_free audible (voices_of m)) ≡ refused 5 → m.stealing_policy ≡ P.FreeChannelOnly → allocated m priority ≡ refused 5
  unfolding allocated
  allocated-none h p = rw (by-policy m.stealing_policy (voices_of m) priority, h, p)

-- ---- a voice that is allocated is there
pub place-some : (o : Option ℕ) (i : ℕ) → place_of o ≡ value i → o ≡ some i
place-some none i e = let z : ◌≡◌ {A = ℕ} 0 1 = cc in absurd (omega arith)
place-some (some j) i e = let h : j ≡ i = cc in ap some h

or-place : {n i : ℕ} (a b : Option ℕ) → ((j : ℕ) → a ≡ some j → j < n) → ((j : ℕ) → b ≡ some j → j < n) → or_else a b ≡ some i → i < n
unfolding or_else
or-place none b h k e = k _ e
or-place (some j) b h k e = h _ e

chosen-place : (policy : VoiceStealingPolicy) (vs : List Voice) (priority i : ℕ) → chosen policy vs priority ≡ some i → i < length vs
unfolding lowest_priority free_only
chosen-place P.LowestPriorityOldest vs priority i e =
    or-place (first_free audible vs) (first_lowest priority_of vs priority) (free-place audible vs) (lowest-place priority_of priority vs) e
chosen-place P.FreeChannelOnly vs priority i e = free-place audible vs i e

pub allocated-below : (m : Mixer) (priority i : ℕ) → allocated m priority ≡ value i → i < m.n
unfolding allocated
allocated-below m priority i e =
    let k = chosen-place m.stealing_policy (voices_of m) priority i (place-some _ i e) in
    omega (arith, k, length-take m.n m.voices)

-- ---- the present rule
module _ {A B : Type 0} (f : A → B) (heard : B → Bool) (priority : B → ℕ) where
  get-mapped : (l : List A) (i : ℕ) {v : A} → get_elem? l i ≡ some v → get_elem? (map f l) i ≡ some (f v)
  get-mapped [] i e = let z : ◌≡◌ {A = ℕ} 0 1 = cc in absurd (omega arith)
  get-mapped (x ∷ l) zero {v} e = let h : x ≡ v = cc in ap (λ (y : A). some (f y)) h
  get-mapped (x ∷ l) (suc i) e = get-mapped l i e

  all-mapped : (P : B → Type 0) (l : List A) → All (λ x. P (f x)) l → All P (map f l)
  all-mapped P [] a = tt
  all-mapped P (x ∷ l) a = (a.0, all-mapped P l a.1)

  -- what is allowed of voices with something beside them is allowed of the voices
  allowed-mapped : (l : List A) (p : ℕ) {o : Option ℕ} → Allowed (λ x. heard (f x)) (λ x. priority (f x)) l p o → Allowed heard priority (map f l) p o
  allowed-mapped l p (free {i} g k) = free (get-mapped l i g) k
  allowed-mapped l p (D.taken {i} {v} h g k n) =
      D.taken (all-mapped (λ w. heard w ≡ true) l h) (get-mapped l i g) (all-mapped (λ w. priority (f v) ≤ priority w) l k) n
  allowed-mapped l p (D.refused h k) = D.refused (all-mapped (λ w. heard w ≡ true) l h) (all-mapped (λ w. p ≤ priority w) l k)

pub oldest-lawful : (p : Present) (priority : ℕ) → p.mixer.stealing_policy ≡ P.LowestPriorityOldest
    → Allowed audible priority_of (voices_of p.mixer) priority (oldest_in p priority)
oldest-lawful p priority e =
    let xs = with_ranks (voices_of p.mixer) p.marks.voices in
    rw e
    (rw (ranks-voices (voices_of p.mixer) p.marks.voices) at
    (allowed-mapped (λ (x : Voice × ℕ). x.0) audible priority_of xs priority
    (oldest-allowed (λ (x : Voice × ℕ). audible x.0) (λ (x : Voice × ℕ). priority_of x.0) (λ (x : Voice × ℕ). x.1) xs priority)))

allowed-place : {A : Type 0} (heard : A → Bool) (priority : A → ℕ) (l : List A) (p n : ℕ) {o : Option ℕ} → Allowed heard priority l p o → o ≡ some n → n < length l
allowed-place heard priority l p n (free {i} {v} g k) e = let s : i ≡ n = cc in let h = at_length l i v g in omega arith
allowed-place heard priority l p n (D.taken {i} {v} h g k m) e = let s : i ≡ n = cc in let b = at_length l i v g in omega arith
allowed-place heard priority l p n (D.refused h k) e = let z : ◌≡◌ {A = ℕ} 0 1 = cc in absurd (omega arith)

oldest-place : (policy : VoiceStealingPolicy) (xs : List (Voice × ℕ)) (priority i : ℕ) → chosen_oldest policy xs priority ≡ some i → i < length xs
unfolding free_only
oldest-place P.LowestPriorityOldest xs priority i e =
    allowed-place (λ (x : Voice × ℕ). audible x.0) (λ (x : Voice × ℕ). priority_of x.0) xs priority i
    (oldest-allowed (λ (x : Voice × ℕ). audible x.0) (λ (x : Voice × ℕ). priority_of x.0) (λ (x : Voice × ℕ). x.1) xs priority) e
oldest-place P.FreeChannelOnly xs priority i e = free-place (λ (x : Voice × ℕ). audible x.0) xs i e

pub oldest-below : (p : Present) (priority i : ℕ) → allocated_oldest p priority ≡ value i → i < p.mixer.n
oldest-below p priority i e =
    let m = p.mixer in
    let xs = with_ranks (voices_of m) p.marks.voices in
    let k = oldest-place m.stealing_policy xs priority i (place-some _ i e) in
    omega (arith, k, ranks-length (voices_of m) p.marks.voices, length-take m.n m.voices)

-- of either box
pub given_below : (present : Bool) (p : Present) (priority i : ℕ) → allocated_in present p priority ≡ value i → i < p.mixer.n
given_below true p priority i e = oldest-below p priority i e
given_below false p priority i e = allocated-below p.mixer priority i e
