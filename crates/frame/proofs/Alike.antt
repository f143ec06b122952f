-- Marks that differ at most beside inaudible voices. Assumes nothing.
use Prim.Native.Nat.{ℕ, zero, suc, ◌≤◌, ◌<◌}
use native.Mathlib.Omega.{arith}
use mathlib.Core.Path.{◌≡◌, refl, ap, sym, ◌∙◌}
use mathlib.Core.Bool.{Bool, true, false, cond}
use mathlib.Core.List.{List, [], ◌∷◌, map}
use lib.Dec.{eqb}
use lib.ListN.{length, get_or, set, length-set, length-map}
use Rattle.envelope.specs.Adsrs as A
use Rattle.envelope.specs.declared.Adsr.{Adsr}
use Rattle.laws.specs.Lists.{map_first}
use Rattle.laws.proofs.Bools.{never}
use Rattle.laws.proofs.Lists.{get_d_any, length-map_first}
use Rattle.marks.specs.Marks.{Ordered, beside, nothing, rule_at, rank_at, heard_of, heard_at, settled}
use Rattle.marks.specs.declared.Mark.{Mark}
use Rattle.marks.specs.declared.Marks.{Marks}
use Rattle.marks.specs.declared.Present.{Present}
use Rattle.marks.proofs.Laws as K
use Rattle.mixer.specs.declared.Mixer.{Mixer}
use Rattle.voice.specs.Sources.{active_source}
use Rattle.voice.specs.Voices.{silent_voice, stopped_voice, audible, ticked_voice, stepped_voice}
use Rattle.voice.specs.declared.Voice.{Voice}
use Rattle.voice.proofs.Laws.{ticked-silent, stepped-idle}
use Rattle.frame.specs.Fades.{taken_over, voice_at, fade_ended_with, envelope_after, fade_ended_by, fade_at, next_t, advanced_by, marks_ended, marks_advanced}
use Rattle.frame.specs.Frames.{enveloped, sampled}
use Rattle.frame.proofs.Ends.{stopped-unheard, after-inactive, taken-unheard}

-- the same rules beside each voice that can be heard, the same order of them, and the last fade begun by the same call
pub record Alike (vs : List Voice) (k l : Marks) : Type 0 where
  pub master : k.master ≡ l.master
  pub on : k.sounds_on ≡ l.sounds_on
  pub marks : K.Alike (map audible vs) k.voices l.voices

-- so the same rules at each place
rule-any : (k : Marks) (i : ℕ) → length k.voices ≡ 16 → i < 16 → rule_at k i ≡ (get_or k.voices i nothing).whole
rule-any k i e h = ap (λ (x : Mark). x.whole) (get_d_any k.voices i (record { whole = false; rank = 0 }) nothing (omega arith))

pub rule-alike : {vs : List Voice} {k l : Marks} → Alike vs k l → (i : ℕ) → length k.voices ≡ 16 → i < 16 → heard_at (map audible vs) i ≡ true → rule_at k i ≡ rule_at l i
rule-alike {vs} {k} {l} s i e h g = rule-any k i e h ∙ s.marks.rule i g ∙ sym (rule-any l i (sym s.marks.long ∙ e) h)

silent-unheard : audible (silent_voice 0) ≡ false
unfolding audible silent_voice active_source A.active
silent-unheard = refl

pub heard-voice : (vs : List Voice) (i : ℕ) → heard_at (map audible vs) i ≡ audible (get_or vs i (silent_voice 0))
heard-voice [] i = sym silent-unheard
heard-voice (v ∷ vs) zero = refl
heard-voice (v ∷ vs) (suc i) = heard-voice vs i

-- ---- settling
-- a settled state's marks and those before
pub settling-alike : (p : Present) → length p.mixer.voices ≡ 16 → length p.marks.voices ≡ 16 → Alike p.mixer.voices (settled p).marks p.marks
unfolding settled
settling-alike p e f =
    record { master = refl; on = refl; marks = K.settling-alike (heard_of p) p.marks.voices (length-map p.mixer.voices audible ∙ e ∙ sym f) }

-- alike marks settle to the same
pub alike-settled : (m : Mixer) {k l : Marks} → length m.voices ≡ 16 → length k.voices ≡ 16 → Alike m.voices k l
    → settled (beside m k) ≡ settled (beside m l)
unfolding settled
alike-settled m {k} {l} f e a =
    rw (a.master, a.on, K.alike-settled (map audible m.voices) k.voices l.voices (length-map m.voices audible ∙ f ∙ sym e) a.marks)

-- ---- what can be heard after a step could be before
heard : (before after : Bool) → (before ≡ false → after ≡ false) → after ≡ true → before ≡ true
heard true after h e = refl
heard false after h e = never (sym (h refl) ∙ e)

-- ---- the fade's advance
-- where a place's mark was before a fade's end
moved : ℕ → ℕ
moved zero = 1
moved (suc i) = suc i

ended : Adsr → List Voice → List Voice
ended x vs = let d = silent_voice 0 in set (set vs 0 (taken_over x (get_or vs 0 d) (get_or vs 1 d))) 1 (stopped_voice (get_or vs 1 d))

ended-mark : (ks : List Mark) (i : ℕ) → 1 ≤ length ks → get_or (set ks 0 (get_or ks 1 nothing)) i nothing ≡ get_or ks (moved i) nothing
unfolding moved
ended-mark [] i h = absurd (omega arith)
ended-mark (k ∷ ks) zero h = refl
ended-mark (k ∷ ks) (suc i) h = refl

ended-rank : (ks : List Mark) (i : ℕ) → 1 ≤ length ks → rank_at (set ks 0 (get_or ks 1 nothing)) i ≡ rank_at ks (moved i)
ended-rank ks i h = ap (λ (k : Mark). k.rank) (ended-mark ks i h)

-- an envelope that is active only where voice 1 can be heard
abbrev Silenced : Adsr → List Voice → Type 0
Silenced x vs = audible (get_or vs 1 (silent_voice 0)) ≡ false → A.active x ≡ false

ended-heard : (x : Adsr) (vs : List Voice) (i : ℕ) → Silenced x vs → 2 ≤ length vs → heard_at (map audible (ended x vs)) i ≡ true
    → heard_at (map audible vs) (moved i) ≡ true
unfolding moved ended
ended-heard x [] i q a h = absurd (omega arith)
ended-heard x (v ∷ []) i q a h = absurd (omega arith)
ended-heard x (v ∷ w ∷ vs) zero q a h = heard (audible w) (audible (taken_over x v w)) (λ e. taken-unheard x v w (q e) e) h
ended-heard x (v ∷ w ∷ vs) (suc zero) q a h = never (sym (stopped-unheard w) ∙ h)
ended-heard x (v ∷ w ∷ vs) (suc (suc i)) q a h = h

-- voice 1 is not heard after it, so no two places have their mark from one
ended-apart : (x : Adsr) (vs : List Voice) (i j : ℕ) → 2 ≤ length vs → heard_at (map audible (ended x vs)) i ≡ true → heard_at (map audible (ended x vs)) j ≡ true
    → moved i ≡ moved j → i ≡ j
unfolding moved ended
ended-apart x [] i j a h g e = absurd (omega arith)
ended-apart x (v ∷ []) i j a h g e = absurd (omega arith)
ended-apart x (v ∷ w ∷ vs) zero zero a h g e = refl
ended-apart x (v ∷ w ∷ vs) zero (suc zero) a h g e = never (sym (stopped-unheard w) ∙ g)
ended-apart x (v ∷ w ∷ vs) zero (suc (suc j)) a h g e = absurd (omega arith)
ended-apart x (v ∷ w ∷ vs) (suc zero) zero a h g e = never (sym (stopped-unheard w) ∙ h)
ended-apart x (v ∷ w ∷ vs) (suc (suc i)) zero a h g e = absurd (omega arith)
ended-apart x (v ∷ w ∷ vs) (suc i) (suc j) a h g e = e

ended-order : (x : Adsr) (vs : List Voice) (ks : List Mark) → Silenced x vs → 2 ≤ length vs → 1 ≤ length ks → Ordered (map audible vs) ks
    → Ordered (map audible (ended x vs)) (set ks 0 (get_or ks 1 nothing))
ended-order x vs ks q a b o =
    record {
      has = λ i h. rw (ended-rank ks i b) (o.has (moved i) (ended-heard x vs i q a h));
      apart =
          λ i j h g e.
          ended-apart x vs i j a h g
          (o.apart (moved i) (moved j) (ended-heard x vs i q a h) (ended-heard x vs j q a g) (sym (ended-rank ks i b) ∙ e ∙ ended-rank ks j b));
    }

ended-alike : (x : Adsr) (vs : List Voice) (ks ls : List Mark) → Silenced x vs → 2 ≤ length vs → 1 ≤ length ks → K.Alike (map audible vs) ks ls
    → K.Alike (map audible (ended x vs)) (set ks 0 (get_or ks 1 nothing)) (set ls 0 (get_or ls 1 nothing))
ended-alike x vs ks ls q a b s =
    let c : 1 ≤ length ls = omega (arith, s.long) in
    record {
      long = simp length-set s.long;
      rule =
          λ i h.
          ap (λ (k : Mark). k.whole) (ended-mark ks i b)
          ∙ s.rule (moved i) (ended-heard x vs i q a h)
          ∙ sym (ap (λ (k : Mark). k.whole) (ended-mark ls i c));
      order =
          λ i j h g.
          rw (ended-rank ks i b, ended-rank ks j b, ended-rank ls i c, ended-rank ls j c) (s.order (moved i) (moved j) (ended-heard x vs i q a h) (ended-heard x vs j q a g));
    }

pub marks-full : (m : Mixer) (k : Marks) → length (marks_advanced m k).voices ≡ length k.voices
unfolding marks_advanced
marks-full m k = go m.crossfade_active (eqb (next_t m) 255)
  where
    go : (a e : Bool) → length (cond a (cond e (marks_ended k) k) k).voices ≡ length k.voices
    go true true = length-set k.voices 0 (get_or k.voices 1 nothing)
    go true false = refl
    go false e = refl

-- the call that began the last fade stays the one that did
pub marks-on : (m : Mixer) (k : Marks) → (marks_advanced m k).sounds_on ≡ k.sounds_on
unfolding marks_advanced
marks-on m k = go m.crossfade_active (eqb (next_t m) 255)
  where
    go : (a e : Bool) → (cond a (cond e (marks_ended k) k) k).sounds_on ≡ k.sounds_on
    go true true = refl
    go true false = refl
    go false e = refl

module _ (on : Bool) (m : Mixer) (k : Marks) (f : length m.voices ≡ 16) (e : length k.voices ≡ 16) where
  pub advanced-alike : (l : Marks) → Alike m.voices k l → Alike (advanced_by on m).voices (marks_advanced m k) (marks_advanced m l)
  unfolding advanced_by marks_advanced fade_ended_with fade_at ended
  advanced-alike l s = go m.crossfade_active (eqb (next_t m) 255)
    where
      over : Alike (fade_ended_by on m).voices (marks_ended k) (marks_ended l)
      over =
          record {
            master = s.master;
            on = s.on;
            marks =
                ended-alike (envelope_after on (voice_at m 0) (voice_at m 1)) m.voices k.voices l.voices (after-inactive on (voice_at m 0) (voice_at m 1)) (omega arith) (omega arith) s.marks;
          }

      go : (a b : Bool)
          → Alike (cond a (cond b (fade_ended_by on m) (fade_at m (next_t m))) m).voices (cond a (cond b (marks_ended k) k) k) (cond a (cond b (marks_ended l) l) l)
      go true true = over
      go true false = s
      go false b = s

  pub advanced-order : Ordered (map audible m.voices) k.voices → Ordered (map audible (advanced_by on m).voices) (marks_advanced m k).voices
  unfolding advanced_by marks_advanced fade_ended_with fade_at ended
  advanced-order o = go m.crossfade_active (eqb (next_t m) 255)
    where
      go : (a b : Bool)
          → Ordered (map audible (cond a (cond b (fade_ended_by on m) (fade_at m (next_t m))) m).voices) (cond a (cond b (marks_ended k) k) k).voices
      go true true = ended-order (envelope_after on (voice_at m 0) (voice_at m 1)) m.voices k.voices (after-inactive on (voice_at m 0) (voice_at m 1)) (omega arith) (omega arith) o
      go true false = o
      go false b = o

-- ---- the rest of a frame: all n voices are ticked, the first c sampled
step : Voice → Voice
step v = (stepped_voice v).voice

framed-unheard : (c n : ℕ) (vs : List Voice) (i : ℕ) → c ≤ n → heard_at (map audible vs) i ≡ false
    → heard_at (map audible (map_first step c (map_first ticked_voice n vs))) i ≡ false
unfolding step
framed-unheard zero zero vs i h e = e
framed-unheard (suc c) zero vs i h e = absurd (omega arith)
framed-unheard zero (suc n) [] i h e = e
framed-unheard (suc c) (suc n) [] i h e = e
framed-unheard zero (suc n) (v ∷ vs) zero h e = (ticked-silent v e).0
framed-unheard (suc c) (suc n) (v ∷ vs) zero h e = let t = ticked-silent v e in rw (stepped-idle (ticked_voice v) t.1).1 t.0
framed-unheard zero (suc n) (v ∷ vs) (suc i) h e = framed-unheard zero n vs i (omega arith) e
framed-unheard (suc c) (suc n) (v ∷ vs) (suc i) h e = framed-unheard c n vs i (omega arith) e

framed-heard : (c : ℕ) (m : Mixer) (i : ℕ) → c ≤ m.n → heard_at (map audible (sampled c (enveloped m)).voices) i ≡ true → heard_at (map audible m.voices) i ≡ true
unfolding sampled enveloped step
framed-heard c m i h e =
    heard (heard_at (map audible m.voices) i)
    (heard_at (map audible (map_first step c (map_first ticked_voice m.n m.voices))) i)
    (framed-unheard c m.n m.voices i h)
    e

pub framed_alike : (c : ℕ) (m : Mixer) {k l : Marks} → c ≤ m.n → Alike m.voices k l → Alike (sampled c (enveloped m)).voices k l
framed_alike c m h s =
    record {
      master = s.master;
      on = s.on;
      marks =
          record {
            long = s.marks.long;
            rule = λ i e. s.marks.rule i (framed-heard c m i h e);
            order = λ i j e g. s.marks.order i j (framed-heard c m i h e) (framed-heard c m j h g);
          };
    }

pub framed-order : (c : ℕ) (m : Mixer) (ks : List Mark) → c ≤ m.n → Ordered (map audible m.voices) ks → Ordered (map audible (sampled c (enveloped m)).voices) ks
framed-order c m ks h o = K.fewer-order o (λ i e. framed-heard c m i h e)

pub framed-full : (c : ℕ) (m : Mixer) → length (sampled c (enveloped m)).voices ≡ length m.voices
unfolding sampled enveloped
framed-full c m = simp length-map_first
