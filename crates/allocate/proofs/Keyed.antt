-- The allocation by keys is the allocation. Assumes nothing.
use Prim.Native.Nat.{ℕ, zero, suc, ◌+◌, ◌*◌, min, ◌≤◌, ◌<◌}
use native.Mathlib.Omega.{arith}
use native.Mathlib.Numerals.{add-one}
use mathlib.Core.Path.{◌≡◌, refl, ap, sym, ◌∙◌}
use mathlib.Core.Bool.{Bool, true, false}
use borrow.Author.Tests.{leb-true, leb-false}
use lib.Dec.{leb}
use mathlib.Core.List.{List, [], ◌∷◌, ◌++◌, map}
use lib.ListN.{length, get_or, take, set}
use lib.Seq.{take_all, take-length, take-suc, take-suc-set}
use Rattle.laws.specs.Lists.{All}
use Rattle.ranking.specs.Rule.{first_lowest, free_only}
use Rattle.ranking.proofs.Oldest.{ranked-oldest, oldest-first}
use Rattle.ranking.proofs.Ranked.{lowest-mapped, ranked-free}
use Rattle.marks.specs.Marks.{Valid, ValidIn, rank_at, heard_at}
use Rattle.marks.specs.declared.Mark.{Mark}
use Rattle.marks.specs.declared.Present.{Present}
use Rattle.marks.proofs.Laws.{valid-heard, valid-quiet, rank-few}
use Rattle.voice.specs.Voices.{audible}
use Rattle.voice.specs.declared.Voice.{Voice}
use Rattle.mixer.specs.declared.Mixer.{Mixer}
use Rattle.mixer.specs.Mixers.{voices_of}
use Rattle.mixer.specs.declared.VoiceStealingPolicy.{VoiceStealingPolicy}
use Rattle.mixer.specs.declared.VoiceStealingPolicy.TheVariants as P
use Rattle.allocate.specs.Allocation.{priority_of, place_of, chosen, allocated, with_ranks, chosen_oldest, allocated_oldest, allocated_in}
use Rattle.allocate.specs.Keys.{key_of, age_of, aged_key, keys_of, bound_of, lowest_key}

module _ {A B : Type 0} (f : A → B) where
  take-map : (n : ℕ) (l : List A) → take n (map f l) ≡ map f (take n l)
  take-map zero l = refl
  take-map (suc n) [] = refl
  take-map (suc n) (x ∷ l) = ap (λ (r : List B). f x ∷ r) (take-map n l)

  map-append : (l m : List A) → map f (l ++ m) ≡ map f l ++ map f m
  map-append [] m = refl
  map-append (x ∷ l) m = ap (λ (r : List B). f x ∷ r) (map-append l m)

-- ---- voices with their ranks
pub ranks-length : (vs : List Voice) (ks : List Mark) → length (with_ranks vs ks) ≡ length vs
unfolding with_ranks
ranks-length [] ks = refl
ranks-length (v ∷ vs) [] = ap suc (ranks-length vs [])
ranks-length (v ∷ vs) (k ∷ ks) = ap suc (ranks-length vs ks)

ranks-take : (n : ℕ) (vs : List Voice) (ks : List Mark) → take n (with_ranks vs ks) ≡ with_ranks (take n vs) ks
unfolding with_ranks
ranks-take zero vs ks = refl
ranks-take (suc n) [] ks = refl
ranks-take (suc n) (v ∷ vs) [] = ap (λ (r : List (Voice × ℕ)). (v, 255) ∷ r) (ranks-take n vs [])
ranks-take (suc n) (v ∷ vs) (k ∷ ks) = ap (λ (r : List (Voice × ℕ)). (v, k.rank) ∷ r) (ranks-take n vs ks)

pub ranks-voices : (vs : List Voice) (ks : List Mark) → map (λ (x : Voice × ℕ). x.0) (with_ranks vs ks) ≡ vs
unfolding with_ranks
ranks-voices [] ks = refl
ranks-voices (v ∷ vs) [] = ap (λ (r : List Voice). v ∷ r) (ranks-voices vs [])
ranks-voices (v ∷ vs) (k ∷ ks) = ap (λ (r : List Voice). v ∷ r) (ranks-voices vs ks)

pub ranks-at : (vs : List Voice) (ks : List Mark) (i : ℕ) (d : Voice) (e : Mark) → i < length vs → i < length ks
    → get_or (with_ranks vs ks) i (d, 255) ≡ (get_or vs i d, (get_or ks i e).rank)
unfolding with_ranks
ranks-at [] ks i d e h l = absurd (omega arith)
ranks-at (v ∷ vs) [] i d e h l = absurd (omega arith)
ranks-at (v ∷ vs) (k ∷ ks) zero d e h l = refl
ranks-at (v ∷ vs) (k ∷ ks) (suc i) d e h l = ranks-at vs ks i d e (omega arith) (omega arith)

-- one more key, and all sixteen
module _ (present : Bool) (vs : List Voice) (ks : List Mark) (i : ℕ) where
  pub keys_step : (keys : List ℕ) (d : Voice) (e : Mark) (r a : ℕ) → i < length vs → i < length ks → i < length keys
      → take i keys ≡ map (aged_key present) (take i (with_ranks vs ks)) → r ≡ key_of a (get_or vs i d) → a ≡ age_of present (get_or ks i e).rank
      → take (i + 1) (set keys i r) ≡ map (aged_key present) (take (i + 1) (with_ranks vs ks))
  keys_step keys d e r a h l k f g b =
      let n : i < length (with_ranks vs ks) = omega (arith, ranks-length vs ks) in
      rw (
        add-one,
        take-suc-set keys i r k,
        f,
        take-suc (with_ranks vs ks) i (d, 255) n,
        map-append (aged_key present) (take i (with_ranks vs ks)) (get_or (with_ranks vs ks) i (d, 255) ∷ []),
        ranks-at vs ks i d e h l,
        g,
        b,
      )

  pub keys-end : (keys : List ℕ) → length vs ≤ i → length keys ≤ i → take i keys ≡ map (aged_key present) (take i (with_ranks vs ks)) → keys ≡ keys_of present vs ks
  keys-end keys h k e =
      sym (take_all i keys k) ∙ e ∙ ap (map (aged_key present)) (take_all i (with_ranks vs ks) (omega (arith, ranks-length vs ks)))

-- past the last key there is none more
pub first-keys : (n : ℕ) (keys : List ℕ) → take (min n (length keys)) keys ≡ take n keys
first-keys n keys = by-test (leb n (length keys)) refl
  where
    by-test : (t : Bool) → leb n (length keys) ≡ t → take (min n (length keys)) keys ≡ take n keys
    by-test true h = let e : min n (length keys) ≡ n = omega (arith, leb-true n (length keys) h) in rw e
    by-test false h =
        let k = leb-false n (length keys) h in
        let e : min n (length keys) ≡ length keys = omega arith in
        rw e (take-length keys ∙ sym (take_all n keys (omega arith)))

-- ---- document 01's
pub plain-keys : (vs : List Voice) (ks : List Mark) → keys_of false vs ks ≡ map (key_of 0) vs
unfolding with_ranks
plain-keys [] ks = refl
plain-keys (v ∷ vs) [] = ap (λ (r : List ℕ). key_of 0 v ∷ r) (plain-keys vs [])
plain-keys (v ∷ vs) (k ∷ ks) = ap (λ (r : List ℕ). key_of 0 v ∷ r) (plain-keys vs ks)

all_old : (vs : List Voice) → All (λ v. audible v ≡ true → 0 < 32) vs
all_old [] = tt
all_old (v ∷ vs) = (λ e. omega arith, all_old vs)

by-policy : (policy : VoiceStealingPolicy) (vs : List Voice) (priority : ℕ) → first_lowest (key_of 0) vs (bound_of policy priority) ≡ chosen policy vs priority
unfolding free_only
by-policy P.LowestPriorityOldest vs priority =
    ranked-oldest audible priority_of (λ v. 0) vs priority 32 (all_old vs) ∙ oldest-first audible priority_of vs priority
by-policy P.FreeChannelOnly vs priority = ranked-free audible (λ v. priority_of v * 32 + 0) vs

pub allocated-keyed : (m : Mixer) (ks : List Mark) (priority : ℕ)
    → lowest_key (take m.n (keys_of false m.voices ks)) (bound_of m.stealing_policy priority) ≡ allocated m priority
unfolding allocated
allocated-keyed m ks priority =
    rw (plain-keys m.voices ks, take-map (key_of 0) m.n m.voices)
    (ap place_of (lowest-mapped (key_of 0) (voices_of m) (bound_of m.stealing_policy priority) ∙ by-policy m.stealing_policy (voices_of m) priority))

-- ---- the present one's
few-ranks : (n : ℕ) (vs : List Voice) (ks : List Mark) → ((i : ℕ) → heard_at (map audible vs) i ≡ true → rank_at ks i < 16)
    → All (λ x. audible x.0 ≡ true → x.1 < 32) (with_ranks (take n vs) ks)
unfolding with_ranks
few-ranks zero vs ks f = tt
few-ranks (suc n) [] ks f = tt
few-ranks (suc n) (v ∷ vs) [] f = (λ e. let h = f 0 e in omega arith, few-ranks n vs [] (λ i. f (suc i)))
few-ranks (suc n) (v ∷ vs) (k ∷ ks) f = (λ e. let h = f 0 e in omega arith, few-ranks n vs ks (λ i. f (suc i)))

oldest-policy : (policy : VoiceStealingPolicy) (xs : List (Voice × ℕ)) (priority : ℕ) → All (λ x. audible x.0 ≡ true → x.1 < 32) xs
    → first_lowest (aged_key true) xs (bound_of policy priority) ≡ chosen_oldest policy xs priority
unfolding free_only
oldest-policy P.LowestPriorityOldest xs priority a =
    ranked-oldest (λ (x : Voice × ℕ). audible x.0) (λ (x : Voice × ℕ). priority_of x.0) (λ (x : Voice × ℕ). x.1) xs priority 32 a
oldest-policy P.FreeChannelOnly xs priority a =
    ranked-free (λ (x : Voice × ℕ). audible x.0) (λ (x : Voice × ℕ). priority_of x.0 * 32 + x.1) xs

pub oldest-keyed : (p : Present) (priority : ℕ) → Valid p
    → lowest_key (take p.mixer.n (keys_of true p.mixer.voices p.marks.voices)) (bound_of p.mixer.stealing_policy priority) ≡ allocated_oldest p priority
oldest-keyed p priority h =
    let m = p.mixer in
    let ks = p.marks.voices in
    let xs = with_ranks (voices_of m) ks in
    let few = few-ranks m.n m.voices ks (rank-few (map audible m.voices) ks (valid-heard h) h.full (valid-quiet h)) in
    rw (take-map (aged_key true) m.n (with_ranks m.voices ks), ranks-take m.n m.voices ks)
    (ap place_of (lowest-mapped (aged_key true) xs (bound_of m.stealing_policy priority) ∙ oldest-policy m.stealing_policy xs priority few))

-- ---- of either box
pub keyed : (present : Bool) (p : Present) (priority : ℕ) → ValidIn present p
    → lowest_key (take p.mixer.n (keys_of present p.mixer.voices p.marks.voices)) (bound_of p.mixer.stealing_policy priority) ≡ allocated_in present p priority
keyed true p priority h = oldest-keyed p priority h
keyed false p priority h = allocated-keyed p.mixer p.marks.voices priority
