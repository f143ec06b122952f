-- Runs of stores, loops over the first of a list, and what holds of each element. Past the end nothing is stored and nothing is
-- read but the default, so few laws ask for a bound. Assumes nothing.
use mathlib.Core.Path.{◌≡◌, refl, ap, sym, ◌∙◌}
use mathlib.Core.List.{List, [], ◌∷◌, ◌++◌, map}
use Prim.Native.Nat.{ℕ, zero, suc, ◌+◌, ◌<◌, ◌≤◌}
use native.Mathlib.Nat.{add-zero, add-suc, suc-add}
use native.Mathlib.Numerals.{add-one}
use native.Mathlib.Omega.{arith}
use lib.ListN.{length, get_or, take, drop, set, replicate}
use lib.Seq.{sets, set_comm, drop-cons, get_or-take, length-take-le}
use mathlib.Core.Bool.{Bool, true, false, cond}
use Rattle.std.specs.List.{count_by}
use Rattle.std.proofs.lemmas.List.Sums.{sum_by-cons}
use Rattle.laws.specs.Lists.{All, map_first, only}

module _ {A : Type 0} where
  -- one run after another
  pub sets-append : (l : List A) (a : ℕ) (x y : List A) → sets (sets l a x) (a + length x) y ≡ sets l a (x ++ y)
  sets-append l a [] y = rw add-zero
  sets-append l a (v ∷ x) y = rw (add-suc, ← suc-add) (sets-append (set l a v) (suc a) x y)

  -- an element stored before the run that it follows
  pub sets_last : (l : List A) (a : ℕ) (x : List A) (v : A) → sets (set l (a + length x) v) a x ≡ sets l a (x ++ (v ∷ []))
  sets_last l a [] v = rw add-zero
  sets_last l a (u ∷ x) v =
      rw (set_comm l (a + suc (length x)) a v u (λ e. omega arith), add-suc, ← suc-add) (sets_last (set l a u) (suc a) x v)

  -- what a loop over the first n has before it, at a turn
  pub drop-take-cons : (n i : ℕ) (l : List A) (d : A) → i < n → n ≤ length l → drop i (take n l) ≡ get_or l i d ∷ drop (i + 1) (take n l)
  drop-take-cons n i l d h k =
      let e : length (take n l) ≡ n = length-take-le n l k in
      let b : i < length (take n l) = omega arith in
      rw add-one (drop-cons (take n l) i d b ∙ ap (λ (x : A). x ∷ drop (suc i) (take n l)) (get_or-take n l i d h))

  -- and at its end
  pub drop-take-end : (n : ℕ) (l : List A) → drop n (take n l) ≡ []
  drop-take-end zero l = refl
  drop-take-end (suc n) [] = refl
  drop-take-end (suc n) (x ∷ l) = drop-take-end n l

  -- within a list, what stands at a place is the same under any default
  pub get_d_any : (l : List A) (i : ℕ) (d e : A) → i < length l → get_or l i d ≡ get_or l i e
  get_d_any [] i d e h = absurd (omega arith)
  get_d_any (x ∷ l) zero d e h = refl
  get_d_any (x ∷ l) (suc i) d e h = get_d_any l i d e (omega arith)

module _ {A : Type 0} (f : A → A) where
  map_first-suc : (d : A) (l : List A) (i : ℕ) → set (map_first f i l) i (f (get_or (map_first f i l) i d)) ≡ map_first f (suc i) l
  map_first-suc d [] zero = refl
  map_first-suc d [] (suc i) = refl
  map_first-suc d (x ∷ l) zero = refl
  map_first-suc d (x ∷ l) (suc i) = ap (λ (r : List A). f x ∷ r) (map_first-suc d l i)

  -- a turn of a loop that replaces element i by f of it
  pub map_first-step : (d : A) (l : List A) (i : ℕ) → set (map_first f i l) i (f (get_or (map_first f i l) i d)) ≡ map_first f (i + 1) l
  map_first-step d l i = rw (add-one, map_first-suc d l i)

  pub length-map_first : (n : ℕ) (l : List A) → length (map_first f n l) ≡ length l
  length-map_first zero l = refl
  length-map_first (suc n) [] = refl
  length-map_first (suc n) (x ∷ l) = ap suc (length-map_first n l)

  pub take-map_first : (n : ℕ) (l : List A) → take n (map_first f n l) ≡ map f (take n l)
  take-map_first zero l = refl
  take-map_first (suc n) [] = refl
  take-map_first (suc n) (x ∷ l) = ap (λ (r : List A). f x ∷ r) (take-map_first n l)

  -- what f leaves as it is
  pub map_first-same : (n : ℕ) (l : List A) → All (λ x. f x ≡ x) (take n l) → map_first f n l ≡ l
  map_first-same zero l h = refl
  map_first-same (suc n) [] h = refl
  map_first-same (suc n) (x ∷ l) h = rw (h.0, map_first-same n l h.1)

  pub drop-map_first : (k n : ℕ) (l : List A) → k ≤ n → drop n (map_first f k l) ≡ drop n l
  drop-map_first zero n l h = refl
  drop-map_first (suc k) zero l h = absurd (omega arith)
  drop-map_first (suc k) (suc n) [] h = refl
  drop-map_first (suc k) (suc n) (x ∷ l) h = drop-map_first k n l (omega arith)

module _ {A : Type 0} (P : A → Type 0) where
  pub all_set : (l : List A) (i : ℕ) (x : A) → All P l → P x → All P (set l i x)
  all_set [] i x a h = tt
  all_set (y ∷ l) zero x a h = (h, a.1)
  all_set (y ∷ l) (suc i) x a h = (a.0, all_set l i x a.1 h)

  pub all-get : (l : List A) (i : ℕ) (d : A) → All P l → i < length l → P (get_or l i d)
  all-get [] i d a h = absurd (omega arith)
  all-get (y ∷ l) zero d a h = a.0
  all-get (y ∷ l) (suc i) d a h = all-get l i d a.1 (omega arith)

  pub all-map_first : (f : A → A) → ((x : A) → P x → P (f x)) → (n : ℕ) (l : List A) → All P l → All P (map_first f n l)
  all-map_first f k zero l a = a
  all-map_first f k (suc n) [] a = tt
  all-map_first f k (suc n) (x ∷ l) a = (k x a.0, all-map_first f k n l a.1)

  pub all_map : (Q : A → Type 0) (f : A → A) → ((x : A) → P x → Q (f x)) → (l : List A) → All P l → All Q (map f l)
  all_map Q f k [] a = tt
  all_map Q f k (x ∷ l) a = (k x a.0, all_map Q f k l a.1)

  pub all-imp : (Q : A → Type 0) → ((x : A) → P x → Q x) → (l : List A) → All P l → All Q l
  all-imp Q f [] a = tt
  all-imp Q f (x ∷ l) a = (f x a.0, all-imp Q f l a.1)

  pub all_take : (k n : ℕ) (l : List A) → k ≤ n → All P (take n l) → All P (take k l)
  all_take zero n l h a = tt
  all_take (suc k) zero l h a = absurd (omega arith)
  all_take (suc k) (suc n) [] h a = tt
  all_take (suc k) (suc n) (x ∷ l) h a = (a.0, all_take k n l (omega arith) a.1)

  pub all_replicate : (n : ℕ) (x : A) → P x → All P (replicate n x)
  all_replicate zero x h = tt
  all_replicate (suc n) x h = (h, all_replicate n x h)

-- those that pass the test, counted by std's word
pub length-only : {A : Type 0} (test : A → Bool) (l : List A) → length (only test l) ≡ count_by test l
unfolding only
length-only test [] = refl
length-only test (x ∷ l) = by-head (length-only test l) (test x) ∙ sym (sum_by-cons (λ y. cond (test y) 1 0) x l)
  where
    by-head : length (only test l) ≡ count_by test l → (t : Bool) → length (cond t (x ∷ only test l) (only test l)) ≡ cond t 1 0 + count_by test l
    by-head e true = omega (arith, e)
    by-head e false = omega (arith, e)
