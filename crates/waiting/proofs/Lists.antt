-- Those of a list that pass a test, and lists in thirty-two cells. Assumes nothing.
use Prim.Native.Nat.{ℕ, suc, ◌+◌, ◌-◌, ◌≤◌, ◌<◌}
use native.Mathlib.Numerals.{add-one}
use native.Mathlib.Omega.{arith}
use mathlib.Core.Path.{◌≡◌, refl}
use mathlib.Core.Bool.{Bool, true, false}
use mathlib.Core.List.{List, [], ◌∷◌, ◌++◌, map, append_assoc, append-nil}
use lib.ListN.{length, get_or, take, set, replicate, length-append}
use lib.Seq.{set-append_seam, take-suc}
use Rattle.laws.specs.Lists.{All, only}
use Rattle.waiting.specs.Lines.{padded}

module _ {A : Type 0} (test : A → Bool) where
  pub only_yes : (x : A) (l : List A) → test x ≡ true → only test (x ∷ l) ≡ x ∷ only test l
  unfolding only
  only_yes x l e = rw e

  pub only_no : (x : A) (l : List A) → test x ≡ false → only test (x ∷ l) ≡ only test l
  unfolding only
  only_no x l e = rw e

  -- by the first one's test
  pub by-test : {X : Type 0} (x : A) → (test x ≡ true → X) → (test x ≡ false → X) → X
  by-test {X} x f g = go (test x) refl
    where
      go : (t : Bool) → test x ≡ t → X
      go true e = f e
      go false e = g e

  pub only-append : (a b : List A) → only test (a ++ b) ≡ only test a ++ only test b
  unfolding only
  only-append [] b = refl
  only-append (x ∷ a) b = by-test x (λ e. rw (e, only-append a b)) (λ e. rw (e, only-append a b))

  pub length-only : (l : List A) → length (only test l) ≤ length l
  unfolding only
  length-only [] = omega arith
  length-only (x ∷ l) = by-test x (λ e. rw e (omega (arith, length-only l))) (λ e. rw e (omega (arith, length-only l)))

  pub all-only : (P : A → Type 0) (l : List A) → All P l → All P (only test l)
  unfolding only
  all-only P [] h = tt
  all-only P (x ∷ l) h = by-test x (λ e. rw e (h.0, all-only P l h.1)) (λ e. rw e (all-only P l h.1))

  -- where all pass, all are left
  pub only-all : (l : List A) → All (λ x. test x ≡ true) l → only test l ≡ l
  unfolding only
  only-all [] h = refl
  only-all (x ∷ l) h = rw (h.0, only-all l h.1)

  pub only_none : only test [] ≡ []
  unfolding only
  only_none = refl

  -- one more of a list's front
  pub only-turn : (l : List A) (i : ℕ) (d : A) → i < length l → test (get_or l i d) ≡ true → only test (take (i + 1) l) ≡ only test (take i l) ++ (get_or l i d ∷ [])
  only-turn l i d h e =
      rw (add-one i, take-suc l i d h, only-append (take i l) (get_or l i d ∷ []), only_yes (get_or l i d) [] e, only_none)

  pub only-pass : (l : List A) (i : ℕ) (d : A) → i < length l → test (get_or l i d) ≡ false → only test (take (i + 1) l) ≡ only test (take i l)
  only-pass l i d h e =
      rw (add-one i, take-suc l i d h, only-append (take i l) (get_or l i d ∷ []), only_no (get_or l i d) [] e, only_none) (append-nil (only test (take i l)))

pub only-map : {A B : Type 0} (test : B → Bool) (f : A → B) (l : List A) → only test (map f l) ≡ map f (only (λ x. test (f x)) l)
unfolding only
only-map test f [] = refl
only-map test f (x ∷ l) = by-test test (f x) (λ e. rw (e, only-map test f l)) (λ e. rw (e, only-map test f l))

-- in thirty-two cells, one more
pub padded-snoc : {A : Type 0} (x y : A) (l : List A) → length l < 32 → set (padded x l) (length l) y ≡ padded x (l ++ (y ∷ []))
padded-snoc x y l h =
    let e : 32 - length l ≡ suc (32 - length (l ++ (y ∷ []))) = omega (arith, length-append l (y ∷ [])) in
    rw (e, append_assoc) (set-append_seam l x (replicate (32 - length (l ++ (y ∷ []))) x) y)
