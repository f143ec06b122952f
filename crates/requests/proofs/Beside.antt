-- The loop over a list of requests keeps ranks in its keys alone, and they are the marks' at the end. Assumes nothing.
use Prim.Native.Nat.{ℕ, zero, suc, ◌+◌, ◌*◌, ◌≤◌, ◌<◌}
use native.Mathlib.Omega.{arith}
use native.Mathlib.Numerals.{add-one}
use mathlib.Core.Path.{◌≡◌, refl, ap, sym, ◌∙◌}
use mathlib.Core.Bool.{Bool, true, false}
use mathlib.Core.List.{List, [], ◌∷◌, ◌++◌, map, append_assoc, append-nil}
use borrow.Author.Tests.{eqb-true, eqb-false}
use lib.Dec.{eqb}
use lib.ListN.{length, get_or, set, take, drop, length-set, drop_of_length-le}
use lib.Seq.{ext_get_or, get_or-set_same, get_or-set_other, take_all, take-suc, set_at, drop-cons, length-take-le, get_or-append_seam}
use Rattle.allocate.specs.Keys.{age_of, keys_of, rank_in, sounding_after, rekeyed}
use Rattle.allocate.proofs.Rekeyed.{keys_length, rank-back, sounding-rank}
use Rattle.error.specs.Numbers.{number_of}
use Rattle.error.specs.Told.{value, refused}
use Rattle.error.specs.declared.AudioError.{AudioError}
use Rattle.laws.proofs.Bools.{never}
use Rattle.marks.specs.Marks.{Valid, ValidIn, beside, nothing, rank_at, ranked, heard_of}
use Rattle.marks.specs.Steps.{below, renewed}
use Rattle.marks.specs.declared.Mark.{Mark}
use Rattle.marks.specs.declared.Marks.{Marks}
use Rattle.marks.specs.declared.Present.{Present}
use Rattle.marks.proofs.Laws.{valid-heard, valid-inside, valid-quiet, rank-few}
use Rattle.marks.proofs.Order.{older-most}
use Rattle.marks.proofs.Ranks.{number, number-set, all-older}
use Rattle.marks.proofs.Starts.{map-set}
use Rattle.marks.proofs.Steps.{renewed-here, renewed-other, renewed-rank, below-number}
use Rattle.mixer.specs.Mixers.{with_voices}
use Rattle.mixer.specs.declared.Mixer.{Mixer}
use Rattle.play.proofs.Placing.{placed, placed-stored}
use Rattle.start.specs.declared.Request.{Request}
use Rattle.voice.specs.Voices as S
use Rattle.voice.specs.Voices.{audible}
use Rattle.voice.specs.declared.Voice.{Voice}
use Rattle.requests.specs.Slices.{request_at}
use Rattle.requests.specs.Steps.{renewed_by, ranked_by, marks_by}
use Rattle.requests.proofs.Playing.{Playing, playing-start, playing-kept, playing-stored}
use Rattle.requests.proofs.Presents.{placed-audible, aged-rule}

-- ---- the ranks of keys beside the rules of marks
pub ranked-length : (keys : List ℕ) (ks : List Mark) → length keys ≡ length ks → length (ranked_by keys ks) ≡ length ks
unfolding ranked_by
ranked-length [] [] e = refl
ranked-length [] (k ∷ ks) e = absurd (omega arith)
ranked-length (r ∷ keys) [] e = absurd (omega arith)
ranked-length (r ∷ keys) (k ∷ ks) e = ap suc (ranked-length keys ks (omega arith))

ranked-at : (keys : List ℕ) (ks : List Mark) (i : ℕ) (d : Mark) → i < length keys → i < length ks
    → get_or (ranked_by keys ks) i d ≡ ranked (rank_in (get_or keys i 0)) (get_or ks i d)
unfolding ranked_by
ranked-at [] ks i d h l = absurd (omega arith)
ranked-at (r ∷ keys) [] i d h l = absurd (omega arith)
ranked-at (r ∷ keys) (k ∷ ks) zero d h l = refl
ranked-at (r ∷ keys) (k ∷ ks) (suc i) d h l = ranked-at keys ks i d (omega arith) (omega arith)

-- one more, and all: the marks passed have the ranks, and those ahead are as they were
module _ (keys : List ℕ) (ks items : List Mark) (i : ℕ) (e : length keys ≡ length ks) (f : items ≡ take i (ranked_by keys ks) ++ drop i ks) where
  pub ranked-step : (d : Mark) (r : ℕ) → i < length ks → r ≡ rank_in (get_or keys i 0)
      → set items i (ranked r (get_or items i d)) ≡ take (i + 1) (ranked_by keys ks) ++ drop (i + 1) ks
  ranked-step d r h g =
      let front = take i (ranked_by keys ks) in
      let here = get_or ks i d in
      let n : length front ≡ i = length-take-le i (ranked_by keys ks) (omega (arith, ranked-length keys ks e)) in
      let seam : items ≡ front ++ (here ∷ drop (suc i) ks) = f ∙ ap (λ (r : List Mark). front ++ r) (drop-cons ks i d h) in
      let same : get_or items i d ≡ here = rw (ap (λ (l : List Mark). get_or l i d) seam) (rw n at (get_or-append_seam front here (drop (suc i) ks) d)) in
      rw (
        same,
        seam,
        set_at front here (drop (suc i) ks) (ranked r here) i n,
        add-one,
        take-suc (ranked_by keys ks) i d (omega (arith, ranked-length keys ks e)),
        ranked-at keys ks i d (omega arith) h,
        append_assoc,
        g,
      )

  pub ranked-end : length ks ≤ i → items ≡ ranked_by keys ks
  ranked-end h =
      f ∙ rw (take_all i (ranked_by keys ks) (omega (arith, ranked-length keys ks e)), drop_of_length-le ks h) (append-nil (ranked_by keys ks))

-- ---- marks that have these rules
-- beside a voice that was started; its rank stands in its key
abbrev pub started_rule : Mark
started_rule = record { whole = true; rank = 255 }

abbrev pub Ruled : List Mark → List Mark → Type 0
Ruled rules ks = (i : ℕ) → (get_or rules i nothing).whole ≡ (get_or ks i nothing).whole

same-mark : (k l : Mark) (r : ℕ) → k.whole ≡ l.whole → r ≡ l.rank → ranked r k ≡ l
same-mark k l r e f = rw (e, f)

-- a valid state's are its own rules with the ranks of its keys
ranked-back : (p : Present) (rules : List Mark) → Valid p → length rules ≡ 16 → Ruled rules p.marks.voices
    → ranked_by (keys_of true p.mixer.voices p.marks.voices) rules ≡ p.marks.voices
ranked-back p rules h e r =
    ext_get_or nothing (ranked_by keys rules) ks (long ∙ e ∙ sym h.full) (λ i l. at_place i (omega (arith, long)))
  where
    ks : List Mark
    ks = p.marks.voices

    keys : List ℕ
    keys = keys_of true p.mixer.voices ks

    full : length keys ≡ 16
    full = keys_length true p.mixer.voices ks ∙ h.inside.full

    long : length (ranked_by keys rules) ≡ length rules
    long = ranked-length keys rules (full ∙ sym e)

    at_place : (i : ℕ) → i < 16 → get_or (ranked_by keys rules) i nothing ≡ get_or ks i nothing
    at_place i l =
        ranked-at keys rules i nothing (omega (arith, full)) (omega arith)
        ∙ same-mark (get_or rules i nothing) (get_or ks i nothing) (rank_in (get_or keys i 0)) (r i)
        (rank-back p.mixer.voices ks i h.inside.full h.full (valid-quiet h) l)

-- a start gives its voice the present rule, and leaves the others'
ruled-started : (rules ks : List Mark) (i : ℕ) → i < length rules → i < length ks → Ruled rules ks → Ruled (set rules i started_rule) (renewed i ks)
ruled-started rules ks i h l f j = by_place (eqb j i) refl
  where
    by_place : (t : Bool) → eqb j i ≡ t → (get_or (set rules i started_rule) j nothing).whole ≡ (get_or (renewed i ks) j nothing).whole
    by_place true p =
        rw (eqb-true j i p)
        (ap (λ (k : Mark). k.whole) (get_or-set_same rules i started_rule nothing h) ∙ sym (ap (λ (k : Mark). k.whole) (renewed-here i ks l)))
    by_place false p =
        let n = eqb-false j i p in
        ap (λ (k : Mark). k.whole) (get_or-set_other rules i j started_rule nothing n)
        ∙ f j
        ∙ sym (ap (λ (k : Mark). k.whole) (renewed-other i ks j n) ∙ aged-rule (rank_at ks i) (get_or ks j nothing))

-- ---- the loop
-- what it keeps of the marks k of its state, k₀ being those before the list; document 01's are left alone
pub record Kept (k₀ : Marks) (vs : List Voice) (k : Marks) (rules : List Mark) (sounding : ℕ) : Type 0 where
  pub master : k.master ≡ k₀.master
  pub fade : k.sounds_on ≡ k₀.sounds_on
  pub long : length rules ≡ 16
  pub ruled : Ruled rules k.voices
  pub count : sounding ≡ number (map audible vs)

abbrev pub KeptBy : Bool → Marks → List Voice → Marks → List Mark → ℕ → Type 0
KeptBy true k₀ vs k rules sounding = Kept k₀ vs k rules sounding
KeptBy false k₀ vs k rules sounding = k ≡ k₀

kept-start : (present : Bool) (p : Present) → ValidIn present p → KeptBy present p.marks p.mixer.voices p.marks p.marks.voices (below p.marks.voices 16)
kept-start true p h =
    record {
      master = refl;
      fade = refl;
      long = h.full;
      ruled = λ i. refl;
      count = below-number (heard_of p) p.marks.voices (valid-heard h) h.full (valid-quiet h);
    }
kept-start false p h = refl

-- one above the rank of a voice that is started
kept-rank : (present : Bool) (p : Present) (k₀ : Marks) (rules : List Mark) (n i : ℕ) → ValidIn present p → KeptBy present k₀ p.mixer.voices p.marks rules n → i < 16
    → sounding_after present n (get_or (keys_of present p.mixer.voices p.marks.voices) i 0) ≡ suc (age_of present (rank_at (renewed_by present i p.marks).voices i))
kept-rank true p k₀ rules n i h k l =
    rw k.count (sounding-rank p.mixer.voices p.marks.voices i h.inside.full h.full (valid-quiet h) l)
kept-rank false p k₀ rules n i h k l = refl

kept-few : (present : Bool) (p : Present) (k₀ : Marks) (rules : List Mark) (n : ℕ) → ValidIn present p → KeptBy present k₀ p.mixer.voices p.marks rules n
    → present ≡ true → n ≤ 16
kept-few true p k₀ rules n h k t =
    omega (
      arith,
      k.count,
      older-most (heard_of p) p.marks.voices 16,
      valid-heard h,
      all-older (heard_of p) p.marks.voices 16 (valid-heard h ∙ sym h.full)
          (rank-few (heard_of p) p.marks.voices (valid-heard h) h.full (valid-quiet h)),
    )
kept-few false p k₀ rules n h k t = never t

kept-stored : (present : Bool) (p : Present) (k₀ : Marks) (rules : List Mark) (n i above : ℕ) (v : Voice) → ValidIn present p
    → KeptBy present k₀ p.mixer.voices p.marks rules n → i < 16 → audible v ≡ true
    → above ≡ suc (age_of present (rank_at (renewed_by present i p.marks).voices i))
    → KeptBy present k₀ (set p.mixer.voices i v) (renewed_by present i p.marks) (set rules i started_rule) above
kept-stored true p k₀ rules n i above v h k l a f =
    record {
      master = k.master;
      fade = k.fade;
      long = length-set rules i started_rule ∙ k.long;
      ruled = ruled-started rules p.marks.voices i (omega (arith, k.long)) (omega (arith, h.full)) k.ruled;
      count =
          rw (map-set audible p.mixer.voices i v, a)
          (omega (
            arith,
            f,
            number-set (heard_of p) i (omega (arith, valid-heard h)),
            renewed-rank (heard_of p) p.marks.voices i (valid-heard h) h.full (valid-quiet h) l,
          ));
    }
kept-stored false p k₀ rules n i above v h k l a f = k

kept-end : (present : Bool) (p : Present) (k₀ : Marks) (rules : List Mark) (n : ℕ) → ValidIn present p → KeptBy present k₀ p.mixer.voices p.marks rules n
    → marks_by present k₀ (keys_of present p.mixer.voices p.marks.voices) rules ≡ p.marks
kept-end true p k₀ rules n h k = rw (ranked-back p rules h k.long k.ruled, ← k.master, ← k.fade)
kept-end false p k₀ rules n h k = sym k

-- the loop with its state's marks, which no local has
pub record Going (present : Bool) (start : Present) (bytes requests cells₀ : List ℕ) (count i : ℕ) (m : Mixer) (rules : List Mark) (keys : List ℕ) (sounding : ℕ) (cells : List ℕ) : Type 0 where
  pub marks : Marks
  pub playing : Playing present start bytes requests cells₀ count i (beside m marks) keys cells
  pub kept : KeptBy present start.marks m.voices marks rules sounding

pub going_start : (present : Bool) (p : Present) (bytes requests cells : List ℕ) (count : ℕ) (keys : List ℕ) (sounding : ℕ) → ValidIn present p
    → keys ≡ keys_of present p.mixer.voices p.marks.voices → sounding ≡ below p.marks.voices 16
    → Going present p bytes requests cells count 0 p.mixer p.marks.voices keys sounding cells
going_start present p bytes requests cells count keys sounding h k e =
    record { marks = p.marks; playing = playing-start present p bytes requests cells count keys h k; kept = rw e (kept-start present p h) }

module _ (present : Bool) (start : Present) (bytes requests cells₀ : List ℕ) (count i : ℕ) (m : Mixer) (rules : List Mark) (keys : List ℕ) (sounding : ℕ) (cells : List ℕ)
    (g : Going present start bytes requests cells₀ count i m rules keys sounding cells) where
  pub going-few : present ≡ true → sounding ≤ 16
  going-few t = kept-few present (beside m g.marks) start.marks rules sounding g.playing.valid g.kept t

  module _ (r : Request) (h : i < count) (k : r ≡ request_at requests (10 * i)) where
    pub going-kept : (x : AudioError) → placed present (beside m g.marks) bytes r keys ≡ refused (number_of x)
        → Going present start bytes requests cells₀ count (i + 1) m rules keys sounding (set cells i (256 * number_of x + 255))
    going-kept x e =
        record {
          marks = g.marks;
          playing = playing-kept present start bytes requests cells₀ count i (beside m g.marks) keys cells r g.playing h k x e;
          kept = g.kept;
        }

    pub going-stored : (j : ℕ) (v : Voice) (above : ℕ) → placed present (beside m g.marks) bytes r keys ≡ value (j, v) → S.Valid v → above ≡ sounding_after present sounding (get_or keys j 0)
        → Going present start bytes requests cells₀ count (i + 1) (with_voices m (set m.voices j v)) (set rules j started_rule)
        (rekeyed present j v.priority above keys) above (set cells i j)
    going-stored j v above e w f =
        let p = beside m g.marks in
        let l = g.playing in
        let s = placed-stored present p bytes r l.valid keys l.keyed j v e in
        let b : j < 16 = omega (arith, s.place, (valid-inside present p l.valid).few) in
        let t : above ≡ suc (age_of present (rank_at (renewed_by present j g.marks).voices j)) = f ∙ rw l.keyed (kept-rank present p start.marks rules sounding j l.valid g.kept b) in
        record {
          marks = renewed_by present j g.marks;
          playing = playing-stored present start bytes requests cells₀ count i p keys cells r l h k j v above e w t;
          kept = kept-stored present p start.marks rules sounding j above v l.valid g.kept b (placed-audible present p bytes r keys j v e) t;
        }

  -- the marks are those that the keys give
  pub going-marks : marks_by present start.marks keys rules ≡ g.marks
  going-marks =
      ap (λ (l : List ℕ). marks_by present start.marks l rules) g.playing.keyed
      ∙ kept-end present (beside m g.marks) start.marks rules sounding g.playing.valid g.kept
