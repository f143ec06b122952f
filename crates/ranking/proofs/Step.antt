-- What one voice leaves that is stored where the laws of the allocation allow. Assumes nothing.
use Prim.Native.Nat.{ℕ, ◌≤◌, ◌<◌}
use native.Mathlib.Omega.{arith}
use mathlib.Core.Path.{◌≡◌, refl, sym, ◌∙◌}
use mathlib.Core.Bool.{Bool, true, false, false≢true}
use mathlib.Core.List.{List}
use mathlib.Core.Option.{Option, none, some}
use lib.ListN.{length, take, set, get_elem?, length-set, length-map}
use lib.Seq.{take_all}
use borrow.Author.Tests.{eqb-true, eqb-false}
use Rattle.ranking.specs.Falling.{inserted, falling}
use Rattle.laws.specs.Lists.{All}
use Rattle.ranking.specs.Box.{stored, handed_at}
use Rattle.ranking.specs.Demand.{Allowed, free, taken, refused}
use Rattle.ranking.proofs.Falling.{length-falling, lowest-out}
use Rattle.ranking.proofs.Places.{all-at, set_same, set_other}
use Rattle.laws.proofs.Lists.{all_set}
use Rattle.ranking.proofs.Ranks.{ranks, exchanged, length-ranks, ranks-all, all-ranks}

module _ {Voice : Type 0} where
  pub length-stored : (vs : List Voice) (o : Option ℕ) (w : Voice) → length (stored vs o w) ≡ length vs
  length-stored vs none w = refl
  length-stored vs (some i) w = length-set vs i w

  -- a place that was not handed out
  pub elsewhere : (vs : List Voice) (i : ℕ) (o : Option ℕ) (w : Voice) → handed_at i o ≡ false → get_elem? (stored vs o w) i ≡ get_elem? vs i
  elsewhere vs i none w e = refl
  elsewhere vs i (some j) w e = set_other vs i j w (eqb-false i j e)

module _ {Voice : Type 0} (audible : Voice → Bool) (priority : Voice → ℕ) where
  -- the place that was
  pub there : (vs : List Voice) (p i : ℕ) {o : Option ℕ} (w : Voice) → Allowed audible priority vs p o → handed_at i o ≡ true
      → get_elem? (stored vs o w) i ≡ some w
  there vs p i w (free {i = j} {v} g h) e = rw (eqb-true i j e) (set_same vs j v w g)
  there vs p i w (taken {i = j} {v} h g k l) e = rw (eqb-true i j e) (set_same vs j v w g)
  there vs p i w (refused h k) e = absurd (false≢true e)

  abbrev heard : List Voice → List ℕ
  heard vs = ranks audible priority vs

  full : (vs : List Voice) → All (λ v. audible v ≡ true) vs → length (heard vs) ≡ length vs
  full vs h = rw (ranks-all audible priority vs h) (length-map vs priority)

  module _ (vs : List Voice) (p : ℕ) (w : Voice) (a : audible w ≡ true) (e : priority w ≡ p) where
    -- us, in which w has come, has the first as many of vs's priorities and w's
    abbrev First : List Voice → Type 0
    First us = falling (heard us) ≡ take (length vs) (inserted p (falling (heard vs)))

    in-free : (i : ℕ) (v : Voice) → get_elem? vs i ≡ some v → audible v ≡ false → First (set vs i w)
    in-free i v g h =
        let us = set vs i w in
        let x : falling (heard us) ≡ inserted p (falling (heard vs)) = rw (h, a, e) at (exchanged audible priority vs i v w g) in
        let l : length (falling (heard us)) ≤ length vs = omega (arith, length-falling (heard us), length-ranks audible priority us, length-set vs i w) in
        rw (← x) (sym (take_all (length vs) (falling (heard us)) l))

    in_taken : (i : ℕ) (v : Voice) → All (λ u. audible u ≡ true) vs → get_elem? vs i ≡ some v → All (λ u. priority v ≤ priority u) vs → priority v < p
        → First (set vs i w)
    in_taken i v h g k l =
        let us = set vs i w in
        let m = priority v in
        let hs : All (λ u. audible u ≡ true) us = all_set (λ u. audible u ≡ true) vs i w h a in
        let ks : All (λ u. m ≤ priority u) us = all_set (λ u. m ≤ priority u) vs i w k (omega arith) in
        let z : audible v ≡ true = all-at (λ u. audible u ≡ true) vs i v h g in
        let x : inserted m (falling (heard us)) ≡ inserted p (falling (heard vs)) = rw (z, a, e) at (exchanged audible priority vs i v w g) in
        rw (← x)
        (sym (lowest-out (length vs) m (heard us) (full us hs ∙ length-set vs i w) (all-ranks audible priority (λ q. m ≤ q) us ks)))

    pub first_of : {o : Option ℕ} → Allowed audible priority vs p o → First (stored vs o w)
    first_of (free {i} {v} g h) = in-free i v g h
    first_of (taken {i} {v} h g k l) = in_taken i v h g k l
    first_of (refused h k) = sym (lowest-out (length vs) p (heard vs) (full vs h) (all-ranks audible priority (λ q. p ≤ q) vs k))
