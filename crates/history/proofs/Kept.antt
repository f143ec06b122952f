-- After any calls and frames the box is what its history says. Assumes nothing.
use Prim.Native.Nat.{ℕ, zero, suc, ◌≤◌, ◌<◌}
use native.Mathlib.Omega.{arith}
use mathlib.Core.Path.{◌≡◌, refl, ap, sym, ◌∙◌}
use mathlib.Core.Bool.{Bool, true, false, cond}
use mathlib.Core.List.{List, [], ◌∷◌, map}
use borrow.Author.Tests.{eqb-true, eqb-false, lt-ltb, le-ltb}
use lib.Dec.{ltb, eqb}
use lib.ListN.{length, get_or, set, drop, replicate, length-set, length-map}
use lib.Seq.{get_or-set_same, get_or-set_other, drop-set-lt}
use Rattle.frame.specs.Fades.{taken_over, voice_at, fade_ended_with, envelope_after, fade_ended_by, fade_at, next_t, advanced_by, marks_ended, marks_advanced}
use Rattle.frame.specs.Frames.{enveloped, sampled, sampled_count, mono_frame_by, duty_frame_by, stereo_frame_by}
use Rattle.frame.specs.Presents.{mono_next, duty_next, stereo_next}
use Rattle.frame.proofs.Alike.{Alike, settling-alike, alike-settled, advanced-alike, framed_alike}
use Rattle.frame.proofs.Sized.{Sized, Ready, sized-advanced, sized-enveloped, sampled-few, mono-ready, duty-ready, stereo-ready}
use Rattle.laws.specs.Lists.{All, map_first}
use Rattle.laws.proofs.Bools.{never}
use Rattle.laws.proofs.Lists.{drop-map_first}
use Rattle.marks.specs.Marks.{Ordered, beside, nothing, no_marks, started_mark, rank_at, heard_of, heard_at, with_marks, marked_at, older, settled, settled_marks}
use Rattle.marks.specs.declared.Mark.{Mark}
use Rattle.marks.specs.declared.Marks.{Marks}
use Rattle.marks.specs.declared.Present.{Present}
use Rattle.marks.proofs.Laws as K
use Rattle.mixer.specs.declared.Mixer.{Mixer}
use Rattle.sounder.specs.Calls.{begun_by}
use Rattle.voice.specs.Voices.{audible, stopped_voice, ticked_voice, stepped_voice}
use Rattle.voice.specs.declared.Voice.{Voice}
use Rattle.history.specs.Histories.{History, started_now, begun_now}

-- no time is as late as the next
abbrev pub Past : History → Type 0
Past h = (i : ℕ) → rank_at h.marks.voices i < h.clock

abbrev pub Rest : Mixer → Type 0
Rest m = All (λ v. audible v ≡ false) (drop m.n m.voices)

-- a state whose marks have the order of the starts
pub record Kept (p : Present) (h : History) : Type 0 where
  pub ready : Ready p
  pub quiet : settled_marks (heard_of p) p.marks.voices ≡ p.marks.voices
  pub alike : Alike p.mixer.voices p.marks h.marks
  pub past : Past h
  -- the places past the N voices are silent
  pub rest : Rest p.mixer

settled-quiet : (p : Present) → settled_marks (heard_of p) p.marks.voices ≡ p.marks.voices → settled p ≡ p
unfolding settled
settled-quiet p q = ap (λ (ks : List Mark). beside p.mixer (with_marks p.marks ks)) q

pub by-history : (p : Present) (h : History) → Kept p h → settled (beside p.mixer h.marks) ≡ p
by-history p h k = sym (alike-settled p.mixer k.ready.sized.full k.ready.marked k.alike) ∙ settled-quiet p k.quiet

-- ---- settling
alike_then : (vs : List Voice) (a b c : Marks) → Alike vs a b → Alike vs b c → Alike vs a c
alike_then vs a b c e f =
    record {
      master = e.master ∙ f.master;
      on = e.on ∙ f.on;
      marks =
          record {
            long = e.marks.long ∙ f.marks.long;
            rule = λ i h. e.marks.rule i h ∙ f.marks.rule i h;
            order = λ i j h g. e.marks.order i j h g ∙ f.marks.order i j h g;
          };
    }

pub settled-kept : (m : Mixer) (k : Marks) (h : History) → Sized m → length k.voices ≡ 16 → Ordered (map audible m.voices) k.voices → Alike m.voices k h.marks → Past h → Rest m
    → Kept (settled (beside m k)) h
unfolding settled
settled-kept m k h s e o a past rest =
    let hs = map audible m.voices in
    let f : length hs ≡ 16 = length-map m.voices audible ∙ s.full in
    let g = K.settled-length (older hs k.voices) hs k.voices ∙ e in
    record {
      ready = record { sized = s; marked = g; order = K.settled-order hs k.voices f e o };
      quiet = K.settled-twice hs k.voices (f ∙ sym e);
      alike = alike_then m.voices (settled (beside m k)).marks k h.marks (settling-alike (beside m k) s.full e) a;
      past = past;
      rest = rest;
    }

-- ---- frames
advanced-past : (m : Mixer) (h : History) → Past h → (i : ℕ) → rank_at (marks_advanced m h.marks).voices i < h.clock
unfolding marks_advanced
advanced-past m h past = go m.crossfade_active (eqb (next_t m) 255)
  where
    ended : (ks : List Mark) (n : ℕ) → ((i : ℕ) → rank_at ks i < n) → (i : ℕ) → rank_at (set ks 0 (get_or ks 1 nothing)) i < n
    ended [] n f i = f i
    ended (k ∷ ks) n f zero = f 1
    ended (k ∷ ks) n f (suc i) = f (suc i)

    go : (a e : Bool) → (i : ℕ) → rank_at (cond a (cond e (marks_ended h.marks) h.marks) h.marks).voices i < h.clock
    go true true = ended h.marks.voices h.clock past
    go true false = past
    go false e = past

-- the fade's advance and the frame leave the places past N
advanced-rest : (on : Bool) (m : Mixer) → Sized m → Rest m → Rest (advanced_by on m)
unfolding advanced_by fade_ended_with fade_at
advanced-rest on m s a = by-active m.crossfade_active refl
  where
    first : Voice
    first = taken_over (envelope_after on (voice_at m 0) (voice_at m 1)) (voice_at m 0) (voice_at m 1)

    by_end : 2 ≤ m.n → (e : Bool) → Rest (cond e (fade_ended_by on m) (fade_at m (next_t m)))
    by_end l true =
        rw (
          drop-set-lt m.n (set m.voices 0 first) 1 (stopped_voice (voice_at m 1)) (omega arith),
          drop-set-lt m.n m.voices 0 first (omega arith),
        )
        a
    by_end l false = a

    by-active : (t : Bool) → m.crossfade_active ≡ t → Rest (cond t (cond (eqb (next_t m) 255) (fade_ended_by on m) (fade_at m (next_t m))) m)
    by-active true e = by_end (s.fade e) (eqb (next_t m) 255)
    by-active false e = a

sampled-rest : (c : ℕ) (m : Mixer) → c ≤ m.n → Rest m → Rest (sampled c (enveloped m))
unfolding sampled enveloped
sampled-rest c m l a =
    rw (
      drop-map_first (λ (v : Voice). (stepped_voice v).voice) c m.n (map_first ticked_voice m.n m.voices) l,
      drop-map_first ticked_voice m.n m.n m.voices (omega arith),
    )
    a

rest-after : (on : Bool) (m : Mixer) (c : ℕ) → Sized m → c ≤ (advanced_by on m).n → Rest m
    → All (λ v. audible v ≡ false) (drop (advanced_by on m).n (sampled c (enveloped (advanced_by on m))).voices)
unfolding sampled enveloped
rest-after on m c s l a = sampled-rest c (advanced_by on m) l (advanced-rest on m s a)

-- the fade advanced, by its call
abbrev next : Present → Mixer
next p = advanced_by p.marks.sounds_on p.mixer

framed_kept : (p : Present) (h : History) (c : ℕ) (m : Mixer) → Kept p h → c ≤ (next p).n → m.voices ≡ (sampled c (enveloped (next p))).voices → m.n ≡ (next p).n
    → Ready (beside m (marks_advanced p.mixer p.marks)) → Kept (settled (beside m (marks_advanced p.mixer p.marks))) (record { marks = marks_advanced p.mixer h.marks; clock = h.clock })
framed_kept p h c m k l e f r =
    settled-kept m (marks_advanced p.mixer p.marks) (record { marks = marks_advanced p.mixer h.marks; clock = h.clock }) r.sized r.marked r.order
    (rw e (framed_alike c (next p) l (advanced-alike p.marks.sounds_on p.mixer p.marks k.ready.sized.full k.ready.marked h.marks k.alike)))
    (advanced-past p.mixer h k.past)
    (rw (e, f) (rest-after p.marks.sounds_on p.mixer c k.ready.sized l k.rest))

few : (p : Present) → Ready p → sampled_count (enveloped (next p)) ≤ (next p).n
unfolding enveloped
few p r = sampled-few (sized-enveloped (sized-advanced p.marks.sounds_on r.sized))

pub mono-kept : (p : Present) (h : History) → Kept p h → Kept (settled (mono_next p)) (record { marks = marks_advanced p.mixer h.marks; clock = h.clock })
unfolding mono_frame_by sampled enveloped
mono-kept p h k = framed_kept p h (sampled_count (enveloped (next p))) _ k (few p k.ready) refl refl (mono-ready p k.ready)

pub duty-kept : (p : Present) (h : History) → Kept p h → Kept (settled (duty_next p)) (record { marks = marks_advanced p.mixer h.marks; clock = h.clock })
unfolding duty_frame_by mono_frame_by sampled enveloped
duty-kept p h k = framed_kept p h (sampled_count (enveloped (next p))) _ k (few p k.ready) refl refl (duty-ready p k.ready)

pub stereo-kept : (p : Present) (h : History) → Kept p h → Kept (settled (stereo_next p)) (record { marks = marks_advanced p.mixer h.marks; clock = h.clock })
unfolding stereo_frame_by sampled enveloped
stereo-kept p h k = framed_kept p h (next p).n _ k (omega arith) refl refl (stereo-ready p k.ready)

-- ---- a start
module _ (p : Present) (h : History) (k : Kept p h) (i : ℕ) (l : i < 16) (vs : List Voice)
    (sub : (j : ℕ) → heard_at (map audible vs) j ≡ true → (j ≡ i → ⊥) → heard_at (heard_of p) j ≡ true) where
  heard-full : length (heard_of p) ≡ 16
  heard-full = length-map p.mixer.voices audible ∙ k.ready.sized.full

  begun-order : Ordered (map audible vs) (marked_at i started_mark p.marks).voices
  begun-order = K.started-order (heard_of p) p.marks.voices heard-full k.ready.marked k.quiet (map audible vs) i k.ready.order sub l

  abbrev now : Mark
  now = record { whole = true; rank = h.clock }

  -- the rank and the time that a voice then has
  abbrev rank : ℕ → ℕ
  rank j = rank_at (set p.marks.voices i started_mark) j

  abbrev time : ℕ → ℕ
  time j = rank_at (set h.marks.voices i now) j

  past-long : length h.marks.voices ≡ 16
  past-long = sym k.alike.marks.long ∙ k.ready.marked

  here : (ks : List Mark) (x : Mark) → length ks ≡ 16 → (j : ℕ) → j ≡ i → get_or (set ks i x) j nothing ≡ x
  here ks x e j q = rw q (get_or-set_same ks i x nothing (omega arith))

  -- it is younger than all, by rank and by time
  begun-alike : Alike vs (marked_at i started_mark p.marks) (started_now i h).marks
  begun-alike =
      record {
        master = k.alike.master;
        on = k.alike.on;
        marks =
            record {
              long = length-set p.marks.voices i started_mark ∙ k.alike.marks.long ∙ sym (length-set h.marks.voices i now);
              rule = λ j g. by-rule j g (eqb j i) refl;
              order = λ j m g f. by_order j m g f (eqb j i) (eqb m i) refl refl;
            };
      }
    where
      by-rule : (j : ℕ) → heard_at (map audible vs) j ≡ true → (t : Bool) → eqb j i ≡ t → (get_or (set p.marks.voices i started_mark) j nothing).whole ≡ (get_or (set h.marks.voices i now) j nothing).whole
      by-rule j g true q =
          let e = eqb-true j i q in
          ap (λ (x : Mark). x.whole) (here p.marks.voices started_mark k.ready.marked j e) ∙ sym (ap (λ (x : Mark). x.whole) (here h.marks.voices now past-long j e))
      by-rule j g false q =
          let n = eqb-false j i q in
          ap (λ (x : Mark). x.whole) (get_or-set_other p.marks.voices i j started_mark nothing n)
          ∙ k.alike.marks.rule j (sub j g n)
          ∙ sym (ap (λ (x : Mark). x.whole) (get_or-set_other h.marks.voices i j now nothing n))

      rank-here : (j : ℕ) → j ≡ i → rank_at (set p.marks.voices i started_mark) j ≡ 16
      rank-here j e = ap (λ (x : Mark). x.rank) (here p.marks.voices started_mark k.ready.marked j e)

      time-here : (j : ℕ) → j ≡ i → rank_at (set h.marks.voices i now) j ≡ h.clock
      time-here j e = ap (λ (x : Mark). x.rank) (here h.marks.voices now past-long j e)

      rank-there : (j : ℕ) → (j ≡ i → ⊥) → rank_at (set p.marks.voices i started_mark) j ≡ rank_at p.marks.voices j
      rank-there j n = ap (λ (x : Mark). x.rank) (get_or-set_other p.marks.voices i j started_mark nothing n)

      time-there : (j : ℕ) → (j ≡ i → ⊥) → rank_at (set h.marks.voices i now) j ≡ rank_at h.marks.voices j
      time-there j n = ap (λ (x : Mark). x.rank) (get_or-set_other h.marks.voices i j now nothing n)

      rank-few : (j : ℕ) → heard_at (map audible vs) j ≡ true → (j ≡ i → ⊥) → rank_at p.marks.voices j < 16
      rank-few j g n = K.rank-few (heard_of p) p.marks.voices heard-full k.ready.marked k.quiet j (sub j g n)

      by_order : (j m : ℕ) → heard_at (map audible vs) j ≡ true → heard_at (map audible vs) m ≡ true → (s t : Bool) → eqb j i ≡ s → eqb m i ≡ t
          → ltb (rank_at (set p.marks.voices i started_mark) j) (rank_at (set p.marks.voices i started_mark) m)
          ≡ ltb (rank_at (set h.marks.voices i now) j) (rank_at (set h.marks.voices i now) m)
      by_order j m g f true true q r =
          let e = eqb-true j i q in
          let d = eqb-true m i r in
          le-ltb (rank j) (rank m) (omega (arith, rank-here j e, rank-here m d)) ∙ sym (le-ltb (time j) (time m) (omega (arith, time-here j e, time-here m d)))
      by_order j m g f true false q r =
          let e = eqb-true j i q in
          let n = eqb-false m i r in
          le-ltb (rank j) (rank m) (omega (arith, rank-here j e, rank-there m n, rank-few m f n)) ∙ sym (le-ltb (time j) (time m) (omega (arith, time-here j e, time-there m n, k.past m)))
      by_order j m g f false true q r =
          let n = eqb-false j i q in
          let d = eqb-true m i r in
          lt-ltb (rank j) (rank m) (omega (arith, rank-there j n, rank-here m d, rank-few j g n)) ∙ sym (lt-ltb (time j) (time m) (omega (arith, time-there j n, time-here m d, k.past j)))
      by_order j m g f false false q r =
          let n = eqb-false j i q in
          let o = eqb-false m i r in
          rw (rank-there j n, rank-there m o, time-there j n, time-there m o) (k.alike.marks.order j m (sub j g n) (sub m f o))

  begun-past : Past (started_now i h)
  begun-past j = by_place (eqb j i) refl
    where
      by_place : (t : Bool) → eqb j i ≡ t → rank_at (set h.marks.voices i now) j < suc h.clock
      by_place true q =
          let e : rank_at (set h.marks.voices i now) j ≡ h.clock = ap (λ (x : Mark). x.rank) (here h.marks.voices now past-long j (eqb-true j i q)) in
          omega arith
      by_place false q =
          let e : rank_at (set h.marks.voices i now) j ≡ rank_at h.marks.voices j = ap (λ (x : Mark). x.rank) (get_or-set_other h.marks.voices i j now nothing (eqb-false j i q)) in
          omega (arith, k.past j)

pub begun_kept : (p : Present) (h : History) (i : ℕ) (m : Mixer) → Kept p h → i < 16 → Sized m → Rest m
    → ((j : ℕ) → heard_at (map audible m.voices) j ≡ true → (j ≡ i → ⊥) → heard_at (heard_of p) j ≡ true)
    → Kept (settled (beside m (marked_at i started_mark p.marks))) (started_now i h)
begun_kept p h i m k l s r sub =
    settled-kept m (marked_at i started_mark p.marks) (started_now i h) s (length-set p.marks.voices i started_mark ∙ k.ready.marked)
    (begun-order p h k i l m.voices sub) (begun-alike p h k i l m.voices sub) (begun-past p h k i l m.voices sub) r

-- ---- the call that began the last fade
pub begun-by-kept : (on : Bool) (p : Present) (h : History) → Kept p h → Kept (beside p.mixer (begun_by on p.marks)) (begun_now on h)
begun-by-kept on p h k =
    record {
      ready = record { sized = k.ready.sized; marked = k.ready.marked; order = k.ready.order };
      quiet = k.quiet;
      alike = record { master = k.alike.master; on = refl; marks = k.alike.marks };
      past = k.past;
      rest = k.rest;
    }

-- ---- what starts nothing
-- each voice as audible as before
pub changed-kept : (p : Present) (h : History) (m : Mixer) → Kept p h → Sized m → Rest m → map audible m.voices ≡ heard_of p → Kept (beside m p.marks) h
changed-kept p h m k s r e =
    record {
      ready = record { sized = s; marked = k.ready.marked; order = rw e k.ready.order };
      quiet = rw e k.quiet;
      alike = record { master = k.alike.master; on = k.alike.on; marks = rw e k.alike.marks };
      past = k.past;
      rest = r;
    }

unheard : (vs : List Voice) (i : ℕ) → All (λ v. audible v ≡ false) vs → heard_at (map audible vs) i ≡ false
unheard [] i a = refl
unheard (v ∷ vs) zero a = a.0
unheard (v ∷ vs) (suc i) a = unheard vs i a.1

all_drop : (n : ℕ) (vs : List Voice) → All (λ v. audible v ≡ false) vs → All (λ v. audible v ≡ false) (drop n vs)
all_drop zero vs a = a
all_drop (suc n) [] a = tt
all_drop (suc n) (v ∷ vs) a = all_drop n vs a.1

-- none is audible
pub silent-kept : (m : Mixer) (h : History) (master on : Bool) → Sized m → All (λ v. audible v ≡ false) m.voices → h.marks.master ≡ master → h.marks.sounds_on ≡ on
    → length h.marks.voices ≡ 16 → Past h → Kept (beside m (no_marks master on)) h
silent-kept m h master on s a e f l past =
    record {
      ready =
          record {
            sized = s;
            marked = refl;
            order =
                record {
                  has = λ i g. never (sym (unheard m.voices i a) ∙ g);
                  apart = λ i j g f. never (sym (unheard m.voices i a) ∙ g);
                };
          };
      quiet = K.settled-silent (older (map audible m.voices) (replicate 16 nothing)) 16 m.voices (replicate 16 nothing) s.full refl a;
      alike =
          record {
            master = sym e;
            on = sym f;
            marks =
                record {
                  long = sym l;
                  rule = λ i g. never (sym (unheard m.voices i a) ∙ g);
                  order = λ i j g f. never (sym (unheard m.voices i a) ∙ g);
                };
          };
      past = past;
      rest = all_drop m.n m.voices a;
    }
