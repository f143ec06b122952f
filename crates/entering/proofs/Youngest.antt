-- A request that went in is the youngest. Assumes nothing.
use Prim.Native.Nat.{ℕ, ◌<◌}
use native.Mathlib.Omega.{arith}
use mathlib.Core.Path.{◌≡◌, ap, sym, ◌∙◌}
use mathlib.Core.Bool.{Bool, true, false}
use mathlib.Core.List.{List, map}
use lib.ListN.{length, get_or, set, length-set, length-take}
use lib.Seq.{get_or-set_same, get_or-set_other}
use Rattle.marks.specs.Marks.{Valid, heard_of, heard_at, rank_at, nothing, started_mark, settled, older, settled_marks}
use Rattle.marks.specs.declared.Mark.{Mark}
use Rattle.marks.specs.declared.Present.{Present}
use Rattle.marks.proofs.Laws.{settled-heard, heard-below, rank-few, valid-heard, valid-quiet}
use Rattle.marks.proofs.Order.{older-less}
use Rattle.marks.proofs.Starts.{map-set}
use Rattle.mixer.specs.Mixers.{voices_of}
use Rattle.ranking.proofs.Places.{at_length}
use Rattle.start.proofs.Laws.{request-heard}
use Rattle.voice.specs.Voices.{audible}
use Rattle.waiting.specs.declared.Waiting.{Waiting}
use Rattle.entering.specs.Fates.{WentIn}
use Rattle.entering.proofs.Free.{is-first}

-- a mark set at i beside settled ones, the youngest of those that are heard then
module _ (hs gs : List Bool) (ks : List Mark) (i : ℕ) (e : length hs ≡ 16) (f : length ks ≡ 16) (q : settled_marks hs ks ≡ ks) (l : i < 16) (g : gs ≡ set hs i true) where
  begun : List Mark
  begun = set ks i started_mark

  long : length gs ≡ length begun
  unfolding begun
  long = rw (g, length-set hs i true, length-set ks i started_mark) (omega arith)

  rank-after : (j : ℕ) → heard_at gs j ≡ true → rank_at (settled_marks gs begun) j ≡ older gs begun (rank_at begun j)
  rank-after j h = ap (λ (k : Mark). k.rank) (settled-heard (older gs begun) gs begun long j h)

  rank-own : rank_at begun i ≡ 16
  unfolding begun
  rank-own = ap (λ (k : Mark). k.rank) (get_or-set_same ks i started_mark nothing (omega arith))

  rank-other : (j : ℕ) → heard_at gs j ≡ true → (j ≡ i → ⊥) → rank_at begun j < 16
  unfolding begun
  rank-other j h n =
      let a : heard_at hs j ≡ true = sym (get_or-set_other hs i j true false n) ∙ ap (λ (l : List Bool). get_or l j false) (sym g) ∙ h in
      let r : rank_at begun j ≡ rank_at ks j = ap (λ (k : Mark). k.rank) (get_or-set_other ks i j started_mark nothing n) in
      let b = rank-few hs ks e f q j a in
      omega arith

  heard-own : heard_at gs i ≡ true
  heard-own = ap (λ (l : List Bool). get_or l i false) g ∙ get_or-set_same hs i true false (omega arith)

  youngest : (j : ℕ) → heard_at gs j ≡ true → (j ≡ i → ⊥) → rank_at (settled_marks gs begun) j < rank_at (settled_marks gs begun) i
  youngest j h n =
      let m : j < length begun = (let k = heard-below gs j h in omega (arith, long)) in
      let s = older-less gs begun j (rank_at begun j) (rank_at begun i) h m (omega arith) (omega (arith, rank-own, rank-other j h n)) in
      omega (arith, rank-after j h, rank-after i heard-own, s)

-- "0 the oldest": all others that are audible have a lower rank
pub went-in-youngest : (bytes : List ℕ) (p q : Present) (w : Waiting) (i : ℕ) → Valid p → WentIn bytes p w i q → (j : ℕ)
    → heard_at (heard_of q) j ≡ true → (j ≡ i → ⊥) → rank_at q.marks.voices j < rank_at q.marks.voices i
unfolding settled begun
went-in-youngest bytes p q w i h f j a n =
    let c = is-first p.mixer i f.place in
    let b = at_length (voices_of p.mixer) i c.voice c.there in
    let l : i < 16 = omega (arith, length-take p.mixer.n p.mixer.voices, h.inside.full) in
    let u = rw f.start at (request-heard true p.mixer.bank bytes w.request) in
    let g : map audible (set p.mixer.voices i f.voice) ≡ set (heard_of p) i true =
    map-set audible p.mixer.voices i f.voice ∙ ap (λ (t : Bool). set (heard_of p) i t) u.0 in
    rw f.state
    (youngest (heard_of p) (map audible (set p.mixer.voices i f.voice)) p.marks.voices i (valid-heard h) h.full (valid-quiet h) l g j (rw f.state at a) n)
