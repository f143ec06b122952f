-- The oldest of the voices of lowest priority: it keeps the laws of an allocation, and one search by a number of both finds it. Assumes nothing.
use Prim.Native.Nat.{ℕ, suc, ◌+◌, ◌*◌, ◌≤◌, ◌<◌}
use native.Mathlib.Nat.{suc-mul, mul-le-mul_right}
use native.Mathlib.Omega.{arith}
use mathlib.Core.Path.{◌≡◌, refl, ap, ◌∙◌}
use mathlib.Core.Bool.{Bool, true, false, cond, not, ◌&&◌, ◌||◌, true≢false}
use mathlib.Core.List.{List, [], ◌∷◌}
use mathlib.Core.Option.{Option, none, some, or_else}
use lib.Dec.{leb, ltb, eqb}
use lib.ListN.{get_elem?}
use borrow.Author.Tests.{le-leb, lt-leb, lt-ltb, le-ltb, leb-true, leb-false, ltb-true, ltb-false, eq-eqb, ne_eqb, not-true, not-false}
use Rattle.laws.specs.Lists.{All}
use Rattle.laws.proofs.Lists.{all-imp}
use Rattle.ranking.specs.Demand.{Allowed, free, taken, refused}
use Rattle.ranking.specs.Rule.{first_where, none_below, none_older, first_free, first_lowest, oldest_lowest, lowest_priority, lowest_oldest}
use Rattle.ranking.proofs.Rule.{and-true, Found, found, none-below-all, none-lowest}
use Rattle.ranking.proofs.Ranked.{ranked-lowest}

-- ---- numbers of two parts, the second below m
module _ (a b x y m : ℕ) (k : x < m) (l : y < m) where
  scaled-less : a < b → a * m + x < b * m + y
  scaled-less h =
      let s : suc a * m ≤ b * m = mul-le-mul_right {m = suc a} {n = b} m h in
      omega (arith, suc-mul a m)

module _ (a b x y m : ℕ) (k : x < m) (l : y < m) where
  scaled-order : leb (a * m + x) (b * m + y) ≡ (leb a b && (not (eqb b a) || leb x y))
  scaled-order = go (ltb a b) (ltb b a) refl refl
    where
      same : a ≡ b → leb (a * m + x) (b * m + y) ≡ leb x y
      same e = by-test (leb x y) refl
        where
          t : a * m ≡ b * m
          t = rw e

          by-test : (c : Bool) → leb x y ≡ c → leb (a * m + x) (b * m + y) ≡ c
          by-test true g = let h = leb-true x y g in le-leb (a * m + x) (b * m + y) (omega (arith, t))
          by-test false g = let h = leb-false x y g in lt-leb (a * m + x) (b * m + y) (omega (arith, t))

      go : (s t : Bool) → ltb a b ≡ s → ltb b a ≡ t → leb (a * m + x) (b * m + y) ≡ (leb a b && (not (eqb b a) || leb x y))
      go true t g h =
          let n = ltb-true a b g in
          let c = scaled-less a b x y m k l n in
          rw (le-leb (a * m + x) (b * m + y) (omega arith), le-leb a b (omega arith), ne_eqb b a (λ e. omega arith))
      go false true g h =
          let n = ltb-true b a h in
          let c = scaled-less b a y x m l k n in
          rw (lt-leb (a * m + x) (b * m + y) (omega arith), lt-leb a b (omega arith))
      go false false g h =
          let n = ltb-false a b g in
          let o = ltb-false b a h in
          let e : a ≡ b = omega arith in
          rw (same e, le-leb a b (omega arith), eq-eqb b a (omega arith))

scaled-below : (a p x m : ℕ) → x < m → ltb (a * m + x) (p * m) ≡ ltb a p
scaled-below a p x m k = go (ltb a p) refl
  where
    go : (t : Bool) → ltb a p ≡ t → ltb (a * m + x) (p * m) ≡ t
    go true g =
        let n = ltb-true a p g in
        let s : suc a * m ≤ p * m = mul-le-mul_right {m = suc a} {n = p} m n in
        lt-ltb (a * m + x) (p * m) (omega (arith, suc-mul a m))
    go false g =
        let n = ltb-false a p g in
        let s : p * m ≤ a * m = mul-le-mul_right {m = p} {n = a} m n in
        le-ltb (a * m + x) (p * m) (omega arith)

-- ---- tests that agree on a list
and-four : (a b x y : Bool) → ((a && b) && (x && y)) ≡ ((a && x) && (b && y))
and-four true true x y = refl
and-four true false true y = refl
and-four true false false y = refl
and-four false b x y = refl

module _ {Voice : Type 0} where
  where-all : (s t : Voice → Bool) (vs : List Voice) → All (λ v. s v ≡ t v) vs → first_where s vs ≡ first_where t vs
  unfolding first_where
  where-all s t [] a = refl
  where-all s t (v ∷ vs) a = rw (a.0, where-all s t vs a.1)

module _ {Voice : Type 0} (priority age : Voice → ℕ) where
  -- priority first, then age
  abbrev pub both : ℕ → Voice → ℕ
  both m v = priority v * m + age v

  none_both : (m : ℕ) (v : Voice) (vs : List Voice) → age v < m → All (λ w. age w < m) vs
      → none_below (both m) (both m v) vs ≡ (none_below priority (priority v) vs && none_older priority age v vs)
  unfolding none_below none_older
  none_both m v [] k a = refl
  none_both m v (w ∷ vs) k a =
      rw (scaled-order (priority v) (priority w) (age v) (age w) m k a.0, none_both m v vs k a.1)
      (and-four (leb (priority v) (priority w)) (not (eqb (priority w) (priority v)) || leb (age v) (age w)) (none_below priority (priority v) vs) (none_older priority age v vs))

  pub oldest-both : (m : ℕ) (vs : List Voice) (p : ℕ) → All (λ w. age w < m) vs → first_lowest (both m) vs (p * m) ≡ oldest_lowest priority age vs p
  unfolding first_lowest oldest_lowest
  oldest-both m vs p a =
      where-all (λ v. none_below (both m) (both m v) vs && ltb (both m v) (p * m)) (λ v. (none_below priority (priority v) vs && none_older priority age v vs) && ltb (priority v) p) vs
      (all-imp (λ w. age w < m) (λ v. (none_below (both m) (both m v) vs && ltb (both m v) (p * m)) ≡ ((none_below priority (priority v) vs && none_older priority age v vs) && ltb (priority v) p))
      (λ v k. rw (none_both m v vs k a, scaled-below (priority v) p (age v) m k)) vs a)

  -- a number above every age
  ages : List Voice → ℕ
  ages [] = 0
  ages (v ∷ vs) = age v + ages vs

  all-below : (vs : List Voice) (n : ℕ) → ages vs ≤ n → All (λ w. age w < suc n) vs
  unfolding ages
  all-below [] n h = tt
  all-below (v ∷ vs) n h = (omega arith, all-below vs n (omega arith))

  -- where none is found, none is below the request
  oldest-none : (vs : List Voice) (p : ℕ) → oldest_lowest priority age vs p ≡ none → All (λ w. p ≤ priority w) vs
  oldest-none vs p e =
      let m = suc (ages vs) in
      let a = all-below vs (ages vs) (omega arith) in
      let low = none-below-all (both m) (p * m) vs (none-lowest (both m) (p * m) vs (oldest-both m vs p a ∙ e)) in
      lowered m vs a low
    where
      at_least : (m a x : ℕ) → x < m → p * m ≤ a * m + x → p ≤ a
      at_least m a x k h = go (ltb a p) refl
        where
          go : (t : Bool) → ltb a p ≡ t → p ≤ a
          go true g =
              let s : suc a * m ≤ p * m = mul-le-mul_right {m = suc a} {n = p} m (ltb-true a p g) in
              absurd (omega (arith, suc-mul a m))
          go false g = ltb-false a p g

      lowered : (m : ℕ) (ws : List Voice) → All (λ w. age w < m) ws → All (λ w. p * m ≤ both m w) ws → All (λ w. p ≤ priority w) ws
      lowered m [] a b = tt
      lowered m (w ∷ ws) a b = (at_least m (priority w) (age w) a.0 b.0, lowered m ws a.1 b.1)

  oldest-found : (vs : List Voice) (p i : ℕ) → oldest_lowest priority age vs p ≡ some i
      → (v : Voice) × (get_elem? vs i ≡ some v) × All (λ w. priority v ≤ priority w) vs × (priority v < p)
  unfolding oldest_lowest Found
  oldest-found vs p i e = go (rw e at (found test vs))
    where
      test : Voice → Bool
      test v = (none_below priority (priority v) vs && none_older priority age v vs) && ltb (priority v) p

      go : Found test vs (some i) → (v : Voice) × (get_elem? vs i ≡ some v) × All (λ w. priority v ≤ priority w) vs × (priority v < p)
      go f =
          let v = f.0 in
          let h = and-true (none_below priority (priority v) vs && none_older priority age v vs) (ltb (priority v) p) f.2 in
          let g = and-true (none_below priority (priority v) vs) (none_older priority age v vs) h.0 in
          (v, f.1, none-below-all priority (priority v) vs g.0, ltb-true (priority v) p h.1)

-- ---- with the inaudible ones first
module _ {Voice : Type 0} (audible : Voice → Bool) (priority age : Voice → ℕ) (vs : List Voice) (p : ℕ) where
  all-heard : All (λ v. not (audible v) ≡ false) vs → All (λ v. audible v ≡ true) vs
  all-heard h = all-imp (λ v. not (audible v) ≡ false) (λ v. audible v ≡ true) (λ v. not-false (audible v)) vs h

  allowed-oldest : All (λ v. audible v ≡ true) vs → (o : Option ℕ) → oldest_lowest priority age vs p ≡ o → Allowed audible priority vs p o
  allowed-oldest h none e = refused h (oldest-none priority age vs p e)
  allowed-oldest h (some i) e = let f = oldest-found priority age vs p i e in taken h f.1 f.2 f.3

  -- the present rule keeps the laws of an allocation
  pub oldest-allowed : Allowed audible priority vs p (lowest_oldest audible priority age vs p)
  unfolding lowest_oldest first_free or_else Found
  oldest-allowed = go (first_where (λ v. not (audible v)) vs) (found (λ v. not (audible v)) vs)
    where
      go : (o : Option ℕ) → Found (λ v. not (audible v)) vs o → Allowed audible priority vs p (or_else o (oldest_lowest priority age vs p))
      go none h = allowed-oldest (all-heard h) (oldest_lowest priority age vs p) refl
      go (some i) h = free h.1 (not-true (audible h.0) h.2)

  -- one search finds it: 0 for an inaudible voice, else one above the number of both
  pub ranked-oldest : (m : ℕ) → All (λ v. audible v ≡ true → age v < m) vs
      → first_lowest (λ v. cond (audible v) (suc (priority v * m + age v)) 0) vs (suc (p * m)) ≡ lowest_oldest audible priority age vs p
  unfolding lowest_priority lowest_oldest first_free or_else Found
  ranked-oldest m a = ranked-lowest audible (both priority age m) vs (p * m) ∙ go (first_where (λ v. not (audible v)) vs) (found (λ v. not (audible v)) vs)
    where
      young : (ws : List Voice) → All (λ v. audible v ≡ true → age v < m) ws → All (λ v. audible v ≡ true) ws → All (λ v. age v < m) ws
      young [] b h = tt
      young (w ∷ ws) b h = (b.0 h.0, young ws b.1 h.1)

      go : (o : Option ℕ) → Found (λ v. not (audible v)) vs o
          → or_else o (first_lowest (both priority age m) vs (p * m)) ≡ or_else o (oldest_lowest priority age vs p)
      go none h = oldest-both priority age m vs p (young vs a (all-heard h))
      go (some i) h = refl

-- voices that are all of one age: document 01's rule
module _ {Voice : Type 0} (audible : Voice → Bool) (priority : Voice → ℕ) where
  one-age : (v : Voice) (vs : List Voice) → none_older priority (λ w. 0) v vs ≡ true
  unfolding none_older
  one-age v [] = refl
  one-age v (w ∷ vs) = rw (one-age v vs) (or-true (not (eqb (priority w) (priority v))))
    where
      or-true : (t : Bool) → ((t || leb 0 0) && true) ≡ true
      or-true true = refl
      or-true false = refl

  pub oldest-first : (vs : List Voice) (p : ℕ) → lowest_oldest audible priority (λ w. 0) vs p ≡ lowest_priority audible priority vs p
  unfolding lowest_priority lowest_oldest oldest_lowest first_lowest
  oldest-first vs p =
      ap (or_else (first_free audible vs))
      (where-all (λ v. (none_below priority (priority v) vs && none_older priority (λ w. 0) v vs) && ltb (priority v) p) (λ v. none_below priority (priority v) vs && ltb (priority v) p) vs
      (each vs))
    where
      same : (s t : Bool) → ((s && true) && t) ≡ (s && t)
      same true t = refl
      same false t = refl

      each : (ws : List Voice) → All (λ v. ((none_below priority (priority v) vs && none_older priority (λ w. 0) v vs) && ltb (priority v) p) ≡ (none_below priority (priority v) vs && ltb (priority v) p)) ws
      each [] = tt
      each (w ∷ ws) = (rw (one-age w vs) (same (none_below priority (priority w) vs) (ltb (priority w) p)), each ws)
