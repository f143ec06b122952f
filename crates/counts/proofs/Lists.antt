-- The lists that are tried are those of n priorities below k, every one of them, and k to the power n in number. Assumes nothing.
use Prim.Native.Nat.{ℕ, zero, suc, ◌*◌, ◌^◌, ◌≤◌, ◌<◌}
use native.Mathlib.Decide.{ℕ_discrete}
use native.Mathlib.Nat.{zero-mul, suc-mul, pow-suc, pow-zero}
use native.Mathlib.Omega.{arith}
use mathlib.Core.Path.{◌≡◌, refl, ap, sym, ◌∙◌}
use mathlib.Core.List.Memᴰ
use mathlib.Core.List.{List, [], ◌∷◌, ◌++◌, flat_map, Memᴰ}
use lib.ListN.{length, length-append}
use Rattle.laws.specs.Lists.{All}
use Rattle.counts.specs.Counts.{fronts, lists}

-- ---- how many
fronts-length : (k : ℕ) (l : List ℕ) → length (fronts k l) ≡ k
unfolding fronts
fronts-length zero l = refl
fronts-length (suc q) l = ap suc (fronts-length q l)

flat-length : (k : ℕ) (ls : List (List ℕ)) → length (flat_map (fronts k) ls) ≡ length ls * k
unfolding flat_map
flat-length k [] = sym (zero-mul k)
flat-length k (l ∷ ls) =
    length-append (fronts k l) (flat_map (fronts k) ls) ∙ rw (fronts-length k l, flat-length k ls, suc-mul (length ls) k) (omega arith)

pub lists_length : (k n : ℕ) → length (lists k n) ≡ k ^ n
unfolding lists
lists_length k zero = sym (pow-zero k)
lists_length k (suc n) = flat-length k (lists k n) ∙ rw (lists_length k n, pow-suc k n)

-- ---- what each is
pub record Listed (k n : ℕ) (l : List ℕ) : Type 0 where
  pub long : length l ≡ n
  pub each : All (λ q. q < k) l

all_append : {A : Type 0} (P : A → Type 0) (l m : List A) → All P l → All P m → All P (l ++ m)
all_append P [] m h g = g
all_append P (x ∷ l) m h g = (h.0, all_append P l m h.1 g)

fronts-inside : (k n q : ℕ) (l : List ℕ) → q ≤ k → Listed k n l → All (Listed k (suc n)) (fronts q l)
unfolding fronts
fronts-inside k n zero l h g = tt
fronts-inside k n (suc q) l h g =
    (record { long = ap suc g.long; each = (omega arith, g.each) }, fronts-inside k n q l (omega arith) g)

flat-inside : (k n : ℕ) (ls : List (List ℕ)) → All (Listed k n) ls → All (Listed k (suc n)) (flat_map (fronts k) ls)
unfolding flat_map
flat-inside k n [] h = tt
flat-inside k n (l ∷ ls) h =
    all_append (Listed k (suc n)) (fronts k l) (flat_map (fronts k) ls) (fronts-inside k n k l (omega arith) h.0) (flat-inside k n ls h.1)

pub lists-inside : (k n : ℕ) → All (Listed k n) (lists k n)
unfolding lists
lists-inside k zero = (record { long = refl; each = tt }, tt)
lists-inside k (suc n) = flat-inside k n (lists k n) (lists-inside k n)

-- ---- every one is among them
fronts-every : (k q : ℕ) (l : List ℕ) → q < k → Memᴰ (q ∷ l) (fronts k l)
unfolding fronts
fronts-every zero q l h = absurd (omega arith)
fronts-every (suc k) q l h = go (ℕ_discrete q k) (λ g. fronts-every k q l g)
  where
    go : Dec (q ≡ k) → (q < k → Memᴰ (q ∷ l) (fronts k l)) → Memᴰ (q ∷ l) ((k ∷ l) ∷ fronts k l)
    go (yes e) later = Memᴰ.head (ap (λ (x : ℕ). x ∷ l) e)
    go (no d) later = Memᴰ.tail (later (omega (arith, d)))

flat-every : (k q : ℕ) (l : List ℕ) (ls : List (List ℕ)) → q < k → Memᴰ l ls → Memᴰ (q ∷ l) (flat_map (fronts k) ls)
unfolding flat_map
flat-every k q l (m ∷ ls) h (Memᴰ.head e) = Memᴰ.append_left {s = fronts k m} (flat_map (fronts k) ls) (rw e (fronts-every k q m h))
flat-every k q l (m ∷ ls) h (Memᴰ.tail g) = Memᴰ.append_right (fronts k m) (flat-every k q l ls h g)
flat-every k q l [] h x'' = elim x'' [ ]

pub lists-every : (k : ℕ) (l : List ℕ) → All (λ q. q < k) l → Memᴰ l (lists k (length l))
unfolding lists
lists-every k [] h = Memᴰ.head refl
lists-every k (q ∷ l) h = flat-every k q l (lists k (length l)) h.0 (lists-every k l h.1)
