-- Cells stored one after another: what is left to store is what there was. Assumes nothing.
use Prim.Native.Nat.{ℕ, suc, ◌+◌, ◌*◌, ◌≤◌, ◌<◌}
use native.Mathlib.Numerals.{add-one}
use native.Mathlib.Omega.{arith}
use mathlib.Core.Path.{◌≡◌, refl, sym, ◌∙◌, ap}
use mathlib.Core.List.{List, [], ◌∷◌, ◌++◌, map, append-nil}
use lib.IntN.{ℤ, pos}
use lib.ListN.{length, get_or, take, drop, set, length-map, length-append, length-drop, drop_of_length-le}
use lib.Seq.{sets, length-take-le, take_at, drop-cons, drop-length}
use mir.Syntax.{w8}
use mir.Val.{SFits, to_z, of_z}
use mir.ValLaws.{to_z-of_z}
use Rattle.laws.proofs.Stores.{sets-front}
use Rattle.output.specs.declared.Mapped.{Mapped}
use Rattle.output.specs.declared.PwmMapper.{PwmMapper}
use Rattle.buffers.specs.Buffers.{to_i8}
use Rattle.buffers.specs.Shapes.{wide}
use Rattle.buffers.specs.declared.Level.{Level}
use Rattle.buffers.specs.declared.Shape.{Shape}
use Rattle.buffers.specs.declared.Shape.TheVariants.{Once, Doubled, Sides}
use Rattle.buffers.specs.Blocks.{pairs, leveled, mapper_over, levels_over, laid, Laid}

module _ {A : Type 0} where
  -- of the cells to store, those that are left go to cell i and after it
  pub record Putting (whole rest : List A) (i : ℕ) (out : List A) : Type 0 where
    pub left : sets out i rest ≡ whole

  pub put-start : (whole out : List A) → length whole ≡ length out → Putting whole whole 0 out
  put-start whole out e = record { left = sets-front out whole (length out) e (omega arith) ∙ rw (drop-length out, append-nil) }

  pub put-turn : {whole rest more out : List A} {i : ℕ} (v : A) → rest ≡ v ∷ more → Putting whole rest i out → Putting whole more (i + 1) (set out i v)
  put-turn v e p = record { left = rw add-one (rw e at p.left) }

  pub put-end : {whole rest out : List A} {i : ℕ} → rest ≡ [] → Putting whole rest i out → out ≡ whole
  put-end e p = rw e at p.left

-- each sample scaled
module _ {B : Type 0} (f : ℤ → B) (raw : List ℤ) where
  abbrev pub scaled_from : ℕ → List B
  scaled_from i = map f (drop i raw)

  pub scaled-start : (out : List B) → length raw ≡ length out → Putting (scaled_from 0) (scaled_from 0) 0 out
  scaled-start out e = put-start (map f raw) out (length-map raw f ∙ e)

  pub scaled-turn : {whole out : List B} {i : ℕ} (v : B) → i < length raw → v ≡ f (get_or raw i (pos 0)) → Putting whole (scaled_from i) i out → Putting whole (scaled_from (i + 1)) (i + 1) (set out i v)
  scaled-turn {i = i} v h e p = put-turn v (rw (add-one, drop-cons raw i (pos 0) h, e)) p

  pub scaled-end : {whole out : List B} {i : ℕ} → length raw ≤ i → Putting whole (scaled_from i) i out → out ≡ whole
  scaled-end {i = i} h p = put-end (ap (map f) (drop_of_length-le raw h)) p

-- a sample that passes through a byte
pub through-byte : {B : Type 0} (f : ℤ → B) (z : ℤ) {r : B} → SFits w8 z → r ≡ f (to_z w8 (of_z w8 z)) → r ≡ f z
through-byte f z hz e = e ∙ ap f (to_z-of_z w8 z hz)

-- left before right, in two stores
module _ (ls rs : List ℤ) where
  abbrev pub sides_from : ℕ → List ℤ
  sides_from i = pairs to_i8 (drop i ls) (drop i rs)

  pub sides-turn : {whole out : List ℤ} {i : ℕ} (u v : ℤ) → i < length ls → length rs ≡ length ls → u ≡ get_or ls i (pos 0) → v ≡ get_or rs i (pos 0)
      → Putting whole (sides_from i) (2 * i) out → Putting whole (sides_from (i + 1)) (2 * (i + 1)) (set (set out (2 * i) u) (2 * i + 1) v)
  unfolding pairs
  sides-turn {i = i} u v h l hu hv p =
      let one : 2 * i + 1 ≡ suc (2 * i) = omega arith in
      let two : 2 * (i + 1) ≡ suc (suc (2 * i)) = omega arith in
      record { left = rw (two, one, add-one) (rw (drop-cons ls i (pos 0) h, drop-cons rs i (pos 0) (omega arith), ← hu, ← hv) at p.left) }

  pub sides-end : {out : List ℤ} {i : ℕ} → length ls ≤ i → Putting (sides_from 0) (sides_from i) (2 * i) out → out ≡ pairs to_i8 ls rs
  unfolding pairs
  sides-end h p = rw (drop_of_length-le ls h) at p.left

-- samples at a level
pub length_levels : (level : Level) (period : ℕ) (p : PwmMapper) (raw : List ℤ) → length (levels_over level period p raw) ≡ length raw
unfolding levels_over
length_levels level period p [] = refl
length_levels level period p (s ∷ l) = ap suc (length_levels level period (leveled level period p s).mapper l)

module _ (level : Level) (period : ℕ) (raw : List ℤ) {i : ℕ} (p : PwmMapper) where
  module _ (d : Mapped) (h : i < length raw) (e : d ≡ leveled level period p (get_or raw i (pos 0))) where
    pub levels-next : levels_over level period p (drop i raw) ≡ d.duty ∷ levels_over level period d.mapper (drop (i + 1) raw)
    unfolding levels_over
    levels-next = rw (add-one, drop-cons raw i (pos 0) h, e)

    pub mapper-next : mapper_over level period d.mapper (drop (i + 1) raw) ≡ mapper_over level period p (drop i raw)
    unfolding mapper_over
    mapper-next = rw (add-one, drop-cons raw i (pos 0) h, e)

  pub levels-none : length raw ≤ i → levels_over level period p (drop i raw) ≡ []
  unfolding levels_over
  levels-none h = rw (drop_of_length-le raw h)

  pub mapper-none : length raw ≤ i → p ≡ mapper_over level period p (drop i raw)
  unfolding mapper_over
  mapper-none h = rw (drop_of_length-le raw h)

-- ---- the samples of a block in the order of its cells

pub length_pairs : (ls rs : List ℤ) → length rs ≡ length ls → length (pairs to_i8 ls rs) ≡ length ls * 2
unfolding pairs
length_pairs [] rs e = refl
length_pairs (x ∷ ls) [] e = absurd (omega arith)
length_pairs (x ∷ ls) (y ∷ rs) e = omega (arith, length_pairs ls rs (omega arith))

length-laid : (z : Shape) (ls rs : List ℤ) → length rs ≡ length ls → length (laid z ls rs) ≡ length ls * wide z
length-laid Once ls rs e = omega (arith, length-map ls to_i8)
length-laid Doubled ls rs e = length_pairs ls ls refl
length-laid Sides ls rs e = length_pairs ls rs e

pub span_small : (z : Shape) (n k : ℕ) → k ≡ n * wide z → n ≤ 256 → k ≤ 512
span_small Once n k e h = omega arith
span_small Doubled n k e h = omega arith
span_small Sides n k e h = omega arith

pub span-some : (z : Shape) (n k : ℕ) → k ≡ n * wide z → 0 < n → 0 < k
span-some Once n k e h = omega arith
span-some Doubled n k e h = omega arith
span-some Sides n k e h = omega arith

pub laid-front : (z : Shape) (n k : ℕ) (l r was : List ℤ) {cells : List ℤ} → k ≡ n * wide z → n ≤ 256 → length l ≡ 256 → length r ≡ 256 → length was ≡ 512
    → cells ≡ laid z (take n l) (take n r) → Laid z n k l r (cells ++ drop k was)
laid-front z n k l r was {cells} e h el er ew g =
    let few : k ≤ 512 = span_small z n k e h in
    let ll = length-take-le n l (omega arith) in
    let c : length cells ≡ k = ap length g ∙ length-laid z (take n l) (take n r) (length-take-le n r (omega arith) ∙ sym ll) ∙ rw (ll, e) in
    record { count = e; gave = take_at cells (drop k was) k c ∙ g; room = rw (length-append, length-drop) (omega arith) }

pub ruleset scaled_stores = (scaled-start, scaled-turn, scaled-end, through-byte)

pub ruleset side_stores = (put-start, length_pairs, sides-end)

pub ruleset level_stores = (put-start, put-turn, put-end, length_levels, levels-next, mapper-next, levels-none, mapper-none, through-byte)
