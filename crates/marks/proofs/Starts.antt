-- A voice started in a valid state, and voices that fall silent. Assumes nothing.
use Prim.Native.Nat.{ℕ, zero, suc, ◌<◌}
use mathlib.Core.Path.{◌≡◌, refl, ap, sym, ◌∙◌}
use mathlib.Core.Bool.{true, false}
use mathlib.Core.List.{List, [], ◌∷◌, map}
use lib.ListN.{set}
use lib.Seq.{get_or-set_other}
use Rattle.mixer.specs.Mixers as M
use Rattle.mixer.specs.declared.Mixer.{Mixer}
use Rattle.voice.specs.Voices.{audible}
use Rattle.voice.specs.declared.Voice.{Voice}
use Rattle.marks.specs.Marks.{Valid, Ordered, beside, started_mark, with_marks, marked_at, heard_of, heard_at, settled}
use Rattle.marks.specs.Steps.{renewed}
use Rattle.marks.specs.declared.Mark.{Mark}
use Rattle.marks.specs.declared.Present.{Present}
use Rattle.marks.proofs.Laws.{valid-heard, valid-quiet, started-order, settled-valid, marked-length}
use Rattle.marks.proofs.Steps.{renewed-settled}

pub map-set : {A B : Type 0} (f : A → B) (l : List A) (i : ℕ) (x : A) → map f (set l i x) ≡ set (map f l) i (f x)
map-set f [] i x = refl
map-set f (y ∷ l) zero x = refl
map-set {B = B} f (y ∷ l) (suc i) x = ap (λ (r : List B). f y ∷ r) (map-set f l i x)

-- a voice started at i, in a mixer's state whose other voices are audible only where they were
module _ {p : Present} (h : Valid p) (i : ℕ) (l : i < 16) where
  pub begun-order : (m : Mixer) → ((j : ℕ) → heard_at (map audible m.voices) j ≡ true → (j ≡ i → ⊥) → heard_at (heard_of p) j ≡ true)
      → Ordered (map audible m.voices) (marked_at i started_mark p.marks).voices
  begun-order m sub =
      started-order (heard_of p) p.marks.voices (valid-heard h) h.full (valid-quiet h) (map audible m.voices) i h.order sub l

  pub begun-valid : (m : Mixer) → M.Valid m → ((j : ℕ) → heard_at (map audible m.voices) j ≡ true → (j ≡ i → ⊥) → heard_at (heard_of p) j ≡ true)
      → Valid (settled (beside m (marked_at i started_mark p.marks)))
  begun-valid m v sub =
      settled-valid (beside m (marked_at i started_mark p.marks)) v (marked-length i started_mark p.marks ∙ h.full) (begun-order m sub)

  -- a voice stored there
  stored-heard : (v : Voice) (j : ℕ) → heard_at (map audible (set p.mixer.voices i v)) j ≡ true → (j ≡ i → ⊥) → heard_at (heard_of p) j ≡ true
  stored-heard v j e n = sym (rw (map-set audible p.mixer.voices i v) (get_or-set_other (heard_of p) i j (audible v) false n)) ∙ e

  pub stored-valid : (v : Voice) → M.Valid (M.with_voices p.mixer (set p.mixer.voices i v))
      → Valid (settled (beside (M.with_voices p.mixer (set p.mixer.voices i v)) (marked_at i started_mark p.marks)))
  stored-valid v g = begun-valid (M.with_voices p.mixer (set p.mixer.voices i v)) g (stored-heard v)

  -- beside settled marks a start is settled at once
  pub stored-settled : (v : Voice) → audible v ≡ true
      → settled (beside (M.with_voices p.mixer (set p.mixer.voices i v)) (marked_at i started_mark p.marks))
      ≡ beside (M.with_voices p.mixer (set p.mixer.voices i v)) (with_marks p.marks (renewed i p.marks.voices))
  unfolding settled
  stored-settled v e =
      ap
      (λ (ks : List Mark). beside (M.with_voices p.mixer (set p.mixer.voices i v)) (with_marks p.marks ks))
      (rw (map-set audible p.mixer.voices i v, e)
      (renewed-settled (heard_of p) p.marks.voices i (valid-heard h) h.full (valid-quiet h) l))
