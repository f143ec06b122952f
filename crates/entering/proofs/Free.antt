-- A voice that is free. Assumes nothing.
use Prim.Native.Nat.{ℕ, ◌≤◌}
use native.Mathlib.Omega.{arith}
use borrow.Author.Tests.{ltb-false, le-ltb, not-true, not-false}
use mathlib.Core.Path.{◌≡◌, refl, ap, sym, ◌∙◌}
use mathlib.Core.Bool.{Bool, true, false, not}
use mathlib.Core.List.{List, [], ◌∷◌, map}
use mathlib.Core.Option.{Option, none, some, or_else}
use lib.ListN.{length, get_elem?}
use lib.Seq.{length-take-le}
use Rattle.allocate.specs.Allocation.{place_of, with_ranks, chosen_oldest, allocated_in}
use Rattle.allocate.proofs.Keyed.{ranks-voices}
use Rattle.error.specs.Told.{value}
use Rattle.laws.specs.Lists.{All, only}
use Rattle.laws.proofs.Bools.{never}
use Rattle.laws.proofs.Lists.{all-imp}
use Rattle.marks.specs.declared.Mark.{Mark}
use Rattle.marks.specs.declared.Present.{Present}
use Rattle.mixer.specs.Mixers.{voices_of, audible_count}
use Rattle.mixer.specs.declared.Mixer.{Mixer}
use Rattle.mixer.specs.declared.VoiceStealingPolicy.{VoiceStealingPolicy}
use Rattle.mixer.specs.declared.VoiceStealingPolicy.TheVariants as P
use Rattle.ranking.specs.Rule.{first_where, first_free, lowest_oldest, free_only}
use Rattle.ranking.proofs.Rule.{Found, found}
use Rattle.voice.specs.Voices.{audible}
use Rattle.voice.specs.declared.Voice.{Voice}
use Rattle.waiting.proofs.Lists.{only-all, length-only, only_yes, only_no, by-test}
use Rattle.entering.specs.Entering.{voice_free}

-- ---- counting those that are audible
-- where as many pass as there are, all pass
all_pass : {A : Type 0} (test : A → Bool) (l : List A) → length l ≤ length (only test l) → All (λ x. test x ≡ true) l
all_pass test [] h = tt
all_pass test (x ∷ l) h =
    by-test test x
    (λ e. (e, all_pass test l (let k = rw (only_yes test x l e) at h in omega (arith, k))))
    (λ e. let k = rw (only_no test x l e) at h in absurd (omega (arith, k, length-only test l)))

count-voices : (m : Mixer) → m.n ≤ length m.voices → length (voices_of m) ≡ m.n
count-voices m h = length-take-le m.n m.voices h

pub all-audible : (p : Present) → p.mixer.n ≤ length p.mixer.voices → voice_free p ≡ false → All (λ v. audible v ≡ true) (voices_of p.mixer)
unfolding audible_count
all-audible p h e =
    let k : p.mixer.n ≤ length (only audible (voices_of p.mixer)) = ltb-false _ _ e in
    all_pass audible (voices_of p.mixer) (omega (arith, count-voices p.mixer h))

pub none_free : (p : Present) → p.mixer.n ≤ length p.mixer.voices → All (λ v. audible v ≡ true) (voices_of p.mixer) → voice_free p ≡ false
unfolding audible_count
none_free p h a =
    let e : length (only audible (voices_of p.mixer)) ≡ p.mixer.n = ap length (only-all audible (voices_of p.mixer) a) ∙ count-voices p.mixer h in
    le-ltb (length (only audible (voices_of p.mixer))) p.mixer.n (omega arith)

-- ---- the first of them
-- an inaudible voice, before which none is
pub record FirstFree (m : Mixer) (i : ℕ) : Type 0 where
  pub first : first_free audible (voices_of m) ≡ some i
  pub voice : Voice
  pub there : get_elem? (voices_of m) i ≡ some voice
  pub silent : audible voice ≡ false

pub is-first : (m : Mixer) (i : ℕ) → first_free audible (voices_of m) ≡ some i → FirstFree m i
unfolding first_free Found
is-first m i e = go (rw e at (found (λ v. not (audible v)) (voices_of m)))
  where
    go : Found (λ v. not (audible v)) (voices_of m) (some i) → FirstFree m i
    go f = record { first = e; voice = f.0; there = f.1; silent = not-true (audible f.0) f.2 }

none_found : (m : Mixer) → first_free audible (voices_of m) ≡ none → All (λ v. audible v ≡ true) (voices_of m)
unfolding first_free Found
none_found m e = go (rw e at (found (λ v. not (audible v)) (voices_of m)))
  where
    go : Found (λ v. not (audible v)) (voices_of m) none → All (λ v. audible v ≡ true) (voices_of m)
    go a = all-imp (λ v. not (audible v) ≡ false) (λ v. audible v ≡ true) (λ v s. not-false (audible v) s) (voices_of m) a

pub first-free : (p : Present) → p.mixer.n ≤ length p.mixer.voices → voice_free p ≡ true → (i : ℕ) × (first_free audible (voices_of p.mixer) ≡ some i)
first-free p h e = go (first_free audible (voices_of p.mixer)) refl
  where
    go : (o : Option ℕ) → first_free audible (voices_of p.mixer) ≡ o → (i : ℕ) × (first_free audible (voices_of p.mixer) ≡ some i)
    go none f = never (sym (none_free p h (none_found p.mixer f)) ∙ e)
    go (some i) f = (i, f)

-- ---- which the policy does not change
where-mapped : {A B : Type 0} (test : B → Bool) (f : A → B) (l : List A) → first_where (λ x. test (f x)) l ≡ first_where test (map f l)
unfolding first_where
where-mapped test f [] = refl
where-mapped test f (x ∷ l) = rw (where-mapped test f l)

or_some : (o u : Option ℕ) (i : ℕ) → o ≡ some i → or_else o u ≡ some i
unfolding or_else
or_some o u i e = rw e

module _ (vs : List Voice) (ks : List Mark) where
  free-ranked : first_free (λ (x : Voice × ℕ). audible x.0) (with_ranks vs ks) ≡ first_free audible vs
  unfolding first_free
  free-ranked = where-mapped (λ v. not (audible v)) (λ (x : Voice × ℕ). x.0) (with_ranks vs ks) ∙ ap (first_where (λ v. not (audible v))) (ranks-voices vs ks)

  chosen-free : (policy : VoiceStealingPolicy) (priority i : ℕ) → first_free audible vs ≡ some i → chosen_oldest policy (with_ranks vs ks) priority ≡ some i
  unfolding lowest_oldest free_only
  chosen-free P.LowestPriorityOldest priority i e = or_some _ _ i (free-ranked ∙ e)
  chosen-free P.FreeChannelOnly priority i e = free-ranked ∙ e

-- a request gets the first inaudible voice, under either policy
pub free-given : (p : Present) (priority i : ℕ) → first_free audible (voices_of p.mixer) ≡ some i → allocated_in true p priority ≡ value i
free-given p priority i e = ap place_of (chosen-free (voices_of p.mixer) p.marks.voices p.mixer.stealing_policy priority i e)
