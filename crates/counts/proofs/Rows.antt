-- The row that the code keeps has what trying every list gives. Assumes nothing.
use Prim.Native.Nat.{ℕ, zero, suc, ◌+◌, ◌-◌, ◌*◌, ◌^◌, ◌≤◌, ◌<◌}
use native.Mathlib.Nat.{zero-mul, suc-mul, mul-zero, mul-add, add-mul, add-suc, add-zero, pow-succ', mul-le-mul_left, mul-le-mul_right, mul-le-mul, pow-le-pow_right}
use native.Mathlib.Numerals.{add-one}
use native.Mathlib.Omega.{arith}
use mathlib.Core.Path.{◌≡◌, refl, ap, sym, ◌∙◌}
use mathlib.Core.Bool.{Bool, true, false, cond, not}
use mathlib.Core.List.{List, [], ◌∷◌, flat_map, ◌++◌, append-nil, append_assoc}
use lib.Dec.{leb, leb-zero, leb-suc-zero, leb-suc-suc}
use lib.ListN.{length, get_or, set, take, drop, replicate, get_or-replicate, length-set, drop_of_length-le}
use lib.Seq.{drop-cons, drop-set-lt, take_all, take-suc-set}
use borrow.Author.Tests.{le-leb, lt-leb}
use Rattle.error.specs.Told.{value}
use Rattle.laws.specs.Lists.{All}
use Rattle.laws.proofs.Lists.{all-imp, all-get, all_replicate}
use Rattle.counts.specs.Counts.{fronts, lists, how_many, turned_away, counted_by, counted}
use Rattle.counts.specs.Rows.{longer_from, longer, row_of, Small}
use Rattle.counts.proofs.Laws.{Within, counted-within, all-refused, none-refused, add-up}
use Rattle.counts.proofs.Many.{many-append}

-- ---- a request before a list
module _ (voices p q : ℕ) (l : List ℕ) where
  -- one at or above the priority leaves one fewer to find
  turned-first : turned_away voices p (q ∷ l) ≡ cond (leb p q) (turned_away (voices - 1) p l) (turned_away voices p l)
  unfolding turned_away how_many
  turned-first = go (leb p q) voices
    where
      go : (t : Bool) (v : ℕ) → leb v (cond t 1 0 + how_many (leb p) l) ≡ cond t (leb (v - 1) (how_many (leb p) l)) (leb v (how_many (leb p) l))
      go true zero = leb-zero (1 + how_many (leb p) l) ∙ sym (leb-zero (how_many (leb p) l))
      go true (suc v) =
          let e : 1 + how_many (leb p) l ≡ suc (how_many (leb p) l) = omega arith in
          let f : suc v - 1 ≡ v = omega arith in
          rw (e, f) (leb-suc-suc v (how_many (leb p) l))
      go false v = let e : 0 + how_many (leb p) l ≡ how_many (leb p) l = omega arith in rw e

-- ---- all of p + high priorities before a list, of which high are at or above p
module _ (test : List ℕ → Bool) (p : ℕ) (l : List ℕ) (a b : Bool) (each : (q : ℕ) → test (q ∷ l) ≡ cond (leb p q) a b) where
  fronts-below : (k : ℕ) → k ≤ p → how_many test (fronts k l) ≡ k * cond b 1 0
  unfolding fronts how_many
  fronts-below zero h = sym (zero-mul _)
  fronts-below (suc q) h =
      rw (each q, lt-leb p q (omega arith), fronts-below q (omega arith), suc-mul q (cond b 1 0)) (omega arith)

  fronts-all : (high : ℕ) → how_many test (fronts (p + high) l) ≡ high * cond a 1 0 + p * cond b 1 0
  unfolding fronts how_many
  fronts-all zero = rw (add-zero p, fronts-below p (omega arith), zero-mul (cond a 1 0)) (omega arith)
  fronts-all (suc h) =
      rw (add-suc p h, each (p + h), le-leb p (p + h) (omega arith), fronts-all h, suc-mul h (cond a 1 0)) (omega arith)

module _ (high p : ℕ) where
  flat-many : (voices : ℕ) (ls : List (List ℕ))
      → how_many (turned_away voices p) (flat_map (fronts (p + high)) ls)
      ≡ high * how_many (turned_away (voices - 1) p) ls + p * how_many (turned_away voices p) ls
  unfolding flat_map how_many
  flat-many voices [] = rw (mul-zero high, mul-zero p)
  flat-many voices (l ∷ ls) =
      many-append (turned_away voices p) (fronts (p + high) l) (flat_map (fronts (p + high)) ls)
      ∙ rw (
        fronts-all (turned_away voices p) p l (turned_away (voices - 1) p l) (turned_away voices p l) (λ q. turned-first voices p q l) high,
        flat-many voices ls,
        mul-add high (cond (turned_away (voices - 1) p l) 1 0) (how_many (turned_away (voices - 1) p) ls),
        mul-add p (cond (turned_away voices p l) 1 0) (how_many (turned_away voices p) ls),
      )
      (omega arith)

-- ---- the row
module _ (high low : ℕ) where
  longer-length : (before : ℕ) (row : List ℕ) → length (longer_from high low before row) ≡ length row
  unfolding longer_from
  longer-length before [] = refl
  longer-length before (x ∷ row) = ap suc (longer-length x row)

  longer-at : (before : ℕ) (row : List ℕ) (j : ℕ) → suc j < length row
      → get_or (longer_from high low before row) (suc j) 0 ≡ high * get_or row j 0 + low * get_or row (suc j) 0
  unfolding longer_from
  longer-at before [] j h = absurd (omega arith)
  longer-at before (x ∷ []) j h = absurd (omega arith)
  longer-at before (x ∷ y ∷ row) zero h = refl
  longer-at before (x ∷ y ∷ row) (suc j) h = longer-at x (y ∷ row) j (omega arith)

  longer-first : (before : ℕ) (row : List ℕ) → 0 < length row → get_or (longer_from high low before row) 0 0 ≡ high * before + low * get_or row 0 0
  unfolding longer_from
  longer-first before [] h = absurd (omega arith)
  longer-first before (x ∷ row) h = refl

  longer-get : (row : List ℕ) (j : ℕ) → j < length row → get_or (longer high low row) j 0 ≡ high * get_or row (j - 1) 0 + low * get_or row j 0
  longer-get row zero h = longer-first (get_or row 0 0) row h
  longer-get row (suc j) h = let e : suc j - 1 ≡ j = omega arith in rw e (longer-at (get_or row 0 0) row j h)

  pub row-length : (n : ℕ) → length (row_of high low n) ≡ 9
  unfolding row_of
  row-length zero = refl
  row-length (suc n) = longer-length (get_or (row_of high low n) 0 0) (row_of high low n) ∙ row-length n

-- what stands in the row is what trying every list gives
pub row_counts : (high low n voices : ℕ) → voices < 9 → get_or (row_of high low n) voices 0 ≡ how_many (turned_away voices low) (lists (low + high) n)
unfolding row_of lists turned_away how_many
row_counts high low zero zero h = refl
row_counts high low zero (suc v) h = get_or-replicate 8 v 0 0 (omega arith) ∙ rw (leb-suc-zero v)
row_counts high low (suc n) voices h =
    longer-get high low (row_of high low n) voices (omega (arith, row-length high low n))
    ∙ rw (row_counts high low n (voices - 1) (omega arith), row_counts high low n voices h) (sym (flat-many high low voices (lists (low + high) n)))

-- ---- the loop that makes the next row in the row's place
-- what is made, and then what is made of the rest
pub record Lengthening (high low : ℕ) (row : List ℕ) (j before : ℕ) (out : List ℕ) : Type 0 where
  pub long : length out ≡ 9
  pub small : before ≤ 16384
  pub each : All (λ x. x ≤ 16384) (drop j out)
  pub same : take j out ++ longer_from high low before (drop j out) ≡ longer high low row

pub product_small : (a x : ℕ) → a ≤ 4 → x ≤ 16384 → a * x ≤ 65536
product_small a x h g = mul-le-mul h g

module _ (high low : ℕ) (row : List ℕ) where
  pub lengthening-start : Small high low row → length row ≡ 9 → Lengthening high low row 0 (get_or row 0 0) row
  lengthening-start s e =
      record { long = e; small = all-get (λ x. x ≤ 16384) row 0 0 s.each (omega arith); each = s.each; same = refl }

  pub here_small : (j before : ℕ) (out : List ℕ) → Lengthening high low row j before out → j < 9 → get_or out j 0 ≤ 16384
  here_small j before out g h = (rw (drop-cons out j 0 (omega (arith, g.long))) at g.each).0

  pub lengthening-step : (j before : ℕ) (out : List ℕ) → Lengthening high low row j before out → j < 9
      → Lengthening high low row (j + 1) (get_or out j 0) (set out j (high * before + low * get_or out j 0))
  unfolding longer_from
  lengthening-step j before out g h =
      let d = drop-cons out j 0 (omega (arith, g.long)) in
      let v = high * before + low * get_or out j 0 in
      let r = drop-set-lt (suc j) out j v (omega arith) in
      let t = take-suc-set out j v (omega (arith, g.long)) in
      record {
        long = length-set out j _ ∙ g.long;
        small = here_small j before out g h;
        each = rw (add-one, r) (rw d at g.each).1;
        same = rw (add-one, t, r, append_assoc) (rw d at g.same);
      }

  pub lengthening-end : (j before : ℕ) (out : List ℕ) → Lengthening high low row j before out → 9 ≤ j → out ≡ longer high low row
  unfolding longer_from
  lengthening-end j before out g h =
      let l : length out ≤ j = omega (arith, g.long) in
      rw (drop_of_length-le out {i = j} l, take_all j out l, append-nil out) at g.same

-- ---- the loop over the requests: after n of them no count is above 4 to the power n
longer-sum : (bound high low x y : ℕ) → high + low ≤ 4 → x ≤ bound → y ≤ bound → high * x + low * y ≤ 4 * bound
longer-sum bound high low x y h f g =
    let a : high * x ≤ high * bound = mul-le-mul_left high f in
    let b : low * y ≤ low * bound = mul-le-mul_left low g in
    let c : (high + low) * bound ≤ 4 * bound = mul-le-mul_right bound h in
    omega (arith, rw (add-mul high low bound) at c)

longer-each : (bound high low before : ℕ) (row : List ℕ) → high + low ≤ 4 → before ≤ bound → All (λ x. x ≤ bound) row
    → All (λ x. x ≤ 4 * bound) (longer_from high low before row)
unfolding longer_from
longer-each bound high low before [] h f g = tt
longer-each bound high low before (x ∷ row) h f g =
    (longer-sum bound high low before x h f g.0, longer-each bound high low x row h g.0 g.1)

row-each : (high low n : ℕ) → high + low ≤ 4 → All (λ x. x ≤ 4 ^ n) (row_of high low n)
unfolding row_of
row-each high low zero h = (omega arith, all_replicate (λ x. x ≤ 1) 8 0 (omega arith))
row-each high low (suc n) h =
    let row = row_of high low n in
    let g = row-each high low n h in
    rw (pow-succ' 4 n)
    (longer-each (4 ^ n) high low (get_or row 0 0) row h (all-get (λ x. x ≤ 4 ^ n) row 0 0 g (omega (arith, row-length high low n))) g)

pub row_fits : (high low n : ℕ) → high + low ≤ 4 → n < 8 → Small high low (row_of high low n)
row_fits high low n h g =
    let l : 4 ^ n ≤ 4 ^ 7 = pow-le-pow_right {n = 4} (omega arith) {i = n} {j = 7} (omega arith) in
    record {
      few = h;
      each = all-imp (λ x. x ≤ 4 ^ n) (λ x. x ≤ 16384) (λ x f. omega (arith, f, l)) (row_of high low n) (row-each high low n h);
    }

pub row-start : (high low : ℕ) → row_of high low 0 ≡ 1 ∷ replicate 8 0
unfolding row_of
row-start high low = refl

pub row_step : (high low n : ℕ) → row_of high low (n + 1) ≡ longer high low (row_of high low n)
unfolding row_of
row_step high low n = rw add-one

-- ---- what the call answers from its row
module _ {voices k n p : ℕ} (w : Within voices k n p) where
  row_at : (j : ℕ) → j < 9 → get_or (row_of (k - p) p n) j 0 ≡ (counted_by (turned_away j p) k n).refused
  unfolding counted_by
  row_at j h = row_counts (k - p) p n j h ∙ (let e : p + (k - p) ≡ k = omega (arith, w.one) in rw e)

  row-all : get_or (row_of (k - p) p n) 0 0 ≡ k ^ n
  row-all = row_at 0 (omega arith) ∙ all-refused k n p

  pub none-kept : n < voices → 0 ≡ (counted_by (turned_away voices p) k n).refused
  none-kept h = sym (none-refused voices k n p h)

  pub some-kept : voices ≤ n → get_or (row_of (k - p) p n) voices 0 ≡ (counted_by (turned_away voices p) k n).refused
  some-kept h = row_at voices (omega (arith, w.short))

  module _ (a : ℕ) (e : a ≡ (counted_by (turned_away voices p) k n).refused) where
    pub refused_below : a ≤ get_or (row_of (k - p) p n) 0 0
    refused_below = omega (arith, e, row-all, (add-up (turned_away voices p) k n).all)

    -- the first count is right, and the two add up: so is the second
    pub answer : value (record { refused = a; accepted = get_or (row_of (k - p) p n) 0 0 - a }) ≡ counted voices k n p
    unfolding counted_by
    answer =
        let g = (add-up (turned_away voices p) k n).all in
        let b = get_or (row_of (k - p) p n) 0 0 - a in
        let h : b ≡ how_many (λ l. not (turned_away voices p l)) (lists k n) = omega (arith, g, e, row-all) in
        sym (counted-within w ∙ rw (← e, ← h))
