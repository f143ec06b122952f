-- Cells laid over a buffer as far as there is room. Assumes nothing.
use Prim.Native.Nat.{ℕ, suc, min, ◌+◌, ◌-◌, ◌≤◌}
use mathlib.Core.Path.{◌≡◌, refl, sym, ap, ◌∙◌}
use mathlib.Core.List.{List, [], ◌∷◌, ◌++◌, append_assoc}
use native.Mathlib.Omega.{arith}
use mathlib.Core.Bool.{Bool, true, false}
use borrow.Author.Tests.{leb-true, leb-false}
use borrow.Rule.Slice.PartMut.{put_mid}
use lib.Dec.{leb}
use lib.ListN.{length, take, drop, set, drop_of_length-le}
use lib.Seq.{sets, sets-eq, set_out, take-nil, length-sets, length-take-le}
use Rattle.std.proofs.lemmas.List.{take-append-drop, drop-drop}
use Rattle.laws.proofs.Lists.{sets-append}
use Rattle.exports_replay.specs.Runs.{capped}

module _ {A : Type 0} where
  -- past the end nothing is stored
  pub sets-out : (cells : List A) (k : ℕ) (xs : List A) → length cells ≤ k → sets cells k xs ≡ cells
  sets-out cells k [] h = refl
  sets-out cells k (x ∷ xs) h = rw (set_out cells k x h) (sets-out cells (suc k) xs (omega arith))

  sets-cons : (c : A) (cells : List A) (k : ℕ) (xs : List A) → sets (c ∷ cells) (suc k) xs ≡ c ∷ sets cells k xs
  sets-cons c cells k [] = refl
  sets-cons c cells k (x ∷ xs) = sets-cons c (set cells k x) (suc k) xs

  -- from the front on
  pub poured : (cells xs : List A) → sets cells 0 xs ≡ take (length cells) xs ++ drop (length xs) cells
  poured cells [] = rw (take-nil (length cells))
  poured [] (x ∷ xs) = sets-out [] 1 xs (omega arith)
  poured (c ∷ cells) (x ∷ xs) = sets-cons x cells 0 xs ∙ ap (λ (r : List A). x ∷ r) (poured cells xs)

  -- a place is held to the largest that a buffer has
  pub sets-capped : (cells : List A) (k : ℕ) (xs : List A) → length cells ≤ 18446744073709551615 → sets cells (capped k) xs ≡ sets cells k xs
  sets-capped cells k xs h = by (leb k 18446744073709551615) refl
    where
      by : (t : Bool) → leb k 18446744073709551615 ≡ t → sets cells (capped k) xs ≡ sets cells k xs
      by true e = let l = leb-true k 18446744073709551615 e in let z : capped k ≡ k = omega arith in rw z
      by false e =
          let l = leb-false k 18446744073709551615 e in
          let z : capped k ≡ 18446744073709551615 = omega arith in
          rw z (sets-out cells 18446744073709551615 xs h ∙ sym (sets-out cells k xs (omega arith)))

  -- cells that are copied at a place, as many as there is room for
  sets-room : (cells xs : List A) (k n : ℕ) → k ≤ length cells → n ≡ min (length xs) (length cells - k) → sets cells k (take n xs) ≡ sets cells k xs
  sets-room cells xs k n h e = by (leb (length xs) n) refl
    where
      l : length (take n xs) ≡ n
      l = length-take-le n xs (omega arith)

      s : sets (sets cells k (take n xs)) (k + n) (drop n xs) ≡ sets cells k xs
      s = rw (take-append-drop n xs, l) at (sets-append cells k (take n xs) (drop n xs))

      by : (t : Bool) → leb (length xs) n ≡ t → sets cells k (take n xs) ≡ sets cells k xs
      by true q = let g = leb-true (length xs) n q in rw (drop_of_length-le xs g) at s
      by false q =
          let g = leb-false (length xs) n q in
          let m = length-sets cells k (take n xs) in
          sym (sets-out (sets cells k (take n xs)) (k + n) (drop n xs) (omega (arith, m))) ∙ s

  pub copied : (cells xs : List A) (k n : ℕ) → k ≤ length cells → n ≡ min (length xs) (length cells - k) → put_mid k n cells (take n xs) ≡ sets cells k xs
  copied cells xs k n h e =
      let l : length (take n xs) ≡ n = length-take-le n xs (omega arith) in
      let f = rw l at (sets-eq (take n xs) cells k (omega (arith, l))) in
      rw (drop-drop n k cells) (sym (append_assoc (take k cells) (take n xs) (drop (k + n) cells)) ∙ sym f ∙ sets-room cells xs k n h e)

pub capped-sum : (a b : ℕ) → capped (capped a + b) ≡ capped (a + b)
capped-sum a b = omega arith
