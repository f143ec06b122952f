-- Where an allocation that is allowed gives a voice, whichever of equals it takes. Assumes nothing.
use Prim.Native.Nat.{ℕ, zero, suc, ◌+◌, ◌≤◌, ◌<◌}
use native.Mathlib.Omega.{arith}
use mathlib.Core.Path.{◌≡◌, refl}
use mathlib.Core.Bool.{Bool, true, false, cond, not, ◌&&◌}
use mathlib.Core.List.{List, [], ◌∷◌, map}
use mathlib.Core.Option.{Option, some, none-ne-some, some-injective}
use lib.Dec.{leb}
use lib.ListN.{length, get_elem?}
use borrow.Author.Tests.{le-leb, lt-leb}
use Rattle.counts.specs.Counts.{how_many}
use Rattle.counts.proofs.Many.{many-most, many-all}
use Rattle.laws.specs.Lists.{All, only}
use Rattle.ranking.specs.Demand.{Allowed, free, taken, refused}
use Rattle.requests.specs.Players.{is_place}

-- one that does not pass leaves fewer than all
one-fails : {A : Type 0} (test : A → Bool) (l : List A) (i : ℕ) (x : A) → get_elem? l i ≡ some x → test x ≡ false → how_many test l < length l
unfolding how_many
one-fails test [] i x g e = absurd (none-ne-some x g)
one-fails test (y ∷ l) zero x g e =
    let h : test y ≡ false = rw (some-injective y x g) e in
    rw h (omega (arith, many-most test l))
one-fails test (y ∷ l) (suc i) x g e = go (test y) (one-fails test l i x g e)
  where
    go : (t : Bool) → how_many test l < length l → cond t 1 0 + how_many test l < suc (length l)
    go true h = omega arith
    go false h = omega arith

module _ {Voice : Type 0} (audible : Voice → Bool) (priority : Voice → ℕ) (p : ℕ) where
  -- an audible voice of at least this priority
  abbrev pub holds : Voice → Bool
  holds v = audible v && leb p (priority v)

  pub many-holds : (vs : List Voice) → how_many (leb p) (map priority (only audible vs)) ≡ how_many holds vs
  unfolding how_many only
  many-holds [] = refl
  many-holds (v ∷ vs) = go (audible v) (many-holds vs)
    where
      go : (t : Bool) → how_many (leb p) (map priority (only audible vs)) ≡ how_many holds vs
          → how_many (leb p) (map priority (cond t (v ∷ only audible vs) (only audible vs))) ≡ cond (t && leb p (priority v)) 1 0 + how_many holds vs
      go true e = rw e
      go false e = rw e (omega arith)

  inaudible-not : (v : Voice) → audible v ≡ false → holds v ≡ false
  inaudible-not v e = rw e

  lower-not : (v : Voice) → priority v < p → holds v ≡ false
  lower-not v h = rw (lt-leb p (priority v) h) (go (audible v))
    where
      go : (t : Bool) → (t && false) ≡ false
      go true = refl
      go false = refl

  both_hold : (vs : List Voice) → All (λ v. audible v ≡ true) vs → All (λ v. p ≤ priority v) vs → All (λ v. holds v ≡ true) vs
  both_hold [] h k = tt
  both_hold (v ∷ vs) h k = (rw h.0 (le-leb p (priority v) k.0), both_hold vs h.1 k.1)

  -- a voice is given exactly where fewer than all hold
  pub allowed-place : {vs : List Voice} {o : Option ℕ} → Allowed audible priority vs p o → is_place o ≡ not (leb (length vs) (how_many holds vs))
  allowed-place {vs} (free {i} {v} g k) = rw (lt-leb (length vs) (how_many holds vs) (one-fails holds vs i v g (inaudible-not v k)))
  allowed-place {vs} (taken {i} {v} h g k l) = rw (lt-leb (length vs) (how_many holds vs) (one-fails holds vs i v g (lower-not v l)))
  allowed-place {vs} (refused h k) = rw (many-all holds vs (both_hold vs h k), le-leb (length vs) (length vs) (omega arith))
