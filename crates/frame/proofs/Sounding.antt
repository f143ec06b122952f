-- After the end of a fade that keeps sounding, voice 0 runs on as voice 1 would have by itself. Assumes nothing.
use Prim.Native.Nat.{ℕ, ◌≤◌}
use native.Mathlib.Omega.{arith}
use mathlib.Core.Path.{◌≡◌, refl, ap, sym, ◌∙◌}
use mathlib.Core.Bool.{Bool, true, false, cond}
use mathlib.Core.List.{List, [], ◌∷◌}
use borrow.Author.Tests.{lt-ltb, eq-eqb}
use lib.Dec.{eqb}
use lib.ListN.{length, get_or, set, length-set}
use Rattle.envelope.specs.Adsrs as A
use Rattle.envelope.specs.declared.Adsr.{Adsr}
use Rattle.laws.proofs.Bools.{never}
use Rattle.marks.specs.Marks.{beside, nothing, rule_at, settled}
use Rattle.marks.specs.declared.Mark.{Mark}
use Rattle.marks.specs.declared.Marks.{Marks}
use Rattle.marks.specs.declared.Present.{Present}
use Rattle.mixer.specs.declared.Mixer.{Mixer}
use Rattle.voice.specs.Rests as R
use Rattle.voice.specs.Voices.{silent_voice, stopped_voice, audible, sounding, ticked_voice, stepped_voice, sample_by, pair_by}
use Rattle.voice.specs.declared.Voice.{Voice}
use Rattle.voice.specs.declared.source.VoiceSource.TheVariants as S
use Rattle.voice.proofs.Laws.{ticked-silent, stepped-idle}
use Rattle.frame.specs.Fades.{taken_over, voice_at, fade_ended_with, envelope_after, next_t, advanced_by, marks_advanced}
use Rattle.frame.specs.Frames.{enveloped, sampled, sampled_count, mono_frame_by, duty_frame_by, stereo_frame_by}
use Rattle.frame.specs.Presents.{mono_next, duty_next, stereo_next}
use Rattle.frame.specs.Sounding.{advanced_state, gives_at, gives_pair}
use Rattle.frame.proofs.Alike.{heard-voice, rule-alike, settling-alike, framed-full}
use Rattle.frame.proofs.Ends.{taken-heard}
use Rattle.frame.proofs.Settling.{ticked-any, sample-any, pair-any}
use Rattle.frame.proofs.Sized.{Sized}
use Rattle.frame.proofs.Voices.{get_d-map_first, framed_at}
use Rattle.frame.proofs.Whole.{still-mixer, still-marks}

-- ---- v with another's rate, which takes no part in a frame
abbrev at_rate : Voice → Voice → Voice
at_rate o v = taken_over v.adsr o v

rate-ticked : (o v : Voice) → ticked_voice (at_rate o v) ≡ at_rate o (ticked_voice v)
unfolding taken_over ticked_voice audible
rate-ticked o v = go (audible (sounding v v.source (A.ticked v.adsr)))
  where
    t : Voice
    t = sounding v v.source (A.ticked v.adsr)

    u : Voice
    u = sounding (at_rate o v) v.source (A.ticked v.adsr)

    go : (b : Bool) → cond b u (sounding u S.Idle u.adsr) ≡ at_rate o (cond b t (sounding t S.Idle t.adsr))
    go true = refl
    go false = refl

rate-framed : (o v : Voice) → R.framed true (at_rate o v) ≡ at_rate o (R.framed true v)
unfolding taken_over stepped_voice
rate-framed o v = rw (rate-ticked o v)

-- a rule for the sample of a voice, mono or on both sides, that does not look at its rate, and that no rule of gain 255 shows in where it is idle
module _ {B : Type 0} (f : Bool → Voice → B) (free : (w : Bool) (o v : Voice) → f w (at_rate o v) ≡ f w v)
    (idle : (a b : Bool) (v : Voice) → v.source ≡ S.Idle → f a v ≡ f b v) where
  rate-gives : (a b : Bool) (o v : Voice) → (audible v ≡ true → a ≡ b) → f a (ticked_voice (at_rate o v)) ≡ f b (ticked_voice v)
  rate-gives a b o v h = ap (f a) (rate-ticked o v) ∙ free a o (ticked_voice v) ∙ ticked-any f idle a b v h

sample-free : (w : Bool) (o v : Voice) → sample_by w (at_rate o v) ≡ sample_by w v
unfolding taken_over sample_by
sample-free w o v = refl

pair-free : (w : Bool) (o v : Voice) → pair_by w (at_rate o v) ≡ pair_by w v
unfolding taken_over pair_by sample_by
pair-free w o v = refl

-- ---- voice 0 of p is v, but for its rate, which is o's, and by the rule w wherever v can be heard; no fade runs
pub record Runs (o v : Voice) (w : Bool) (p : Present) : Type 0 where
  pub still : p.mixer.crossfade_active ≡ false
  pub there : 1 ≤ p.mixer.n
  pub full : length p.mixer.voices ≡ 16
  pub marked : length p.marks.voices ≡ 16
  pub voice : voice_at p.mixer 0 ≡ taken_over v.adsr o v
  pub rule : audible v ≡ true → rule_at p.marks 0 ≡ w

-- what can be heard by itself after a frame, could before
pub framed-heard : (v : Voice) → audible (R.framed true v) ≡ true → audible v ≡ true
framed-heard v h = go (audible v) refl
  where
    go : (t : Bool) → audible v ≡ t → audible v ≡ true
    go true e = e
    go false e = let t = ticked-silent v e in never (sym (rw (stepped-idle (ticked_voice v) t.1).1 t.0) ∙ h)

module _ {o v : Voice} {w : Bool} (p : Present) (r : Runs o v w p) where
  pub runs-heard : audible (voice_at p.mixer 0) ≡ audible v
  runs-heard = ap audible r.voice ∙ taken-heard o v

  -- such a state's advance is itself
  pub runs-still : advanced_state p ≡ p
  runs-still = rw (still-mixer p.marks.sounds_on p.mixer r.still, still-marks p.mixer p.marks r.still)

  ticks : voice_at (enveloped p.mixer) 0 ≡ ticked_voice (at_rate o v)
  unfolding enveloped
  ticks =
      get_d-map_first ticked_voice p.mixer.n 0 p.mixer.voices (silent_voice 0) r.there (omega (arith, r.full))
      ∙ ap ticked_voice r.voice

  runs-sample : sample_by (rule_at p.marks 0) (voice_at (enveloped p.mixer) 0) ≡ sample_by w (ticked_voice v)
  runs-sample = rw ticks (rate-gives sample_by sample-free sample-any (rule_at p.marks 0) w o v r.rule)

  runs-pair : pair_by (rule_at p.marks 0) (voice_at (enveloped p.mixer) 0) ≡ pair_by w (ticked_voice v)
  runs-pair = rw ticks (rate-gives pair_by pair-free pair-any (rule_at p.marks 0) w o v r.rule)

  -- after a frame in which it is sampled
  runs-framed : (c : ℕ) (m : Mixer) (k : Marks) → 1 ≤ c → m.voices ≡ (sampled c (enveloped p.mixer)).voices → m.n ≡ p.mixer.n
      → m.crossfade_active ≡ p.mixer.crossfade_active → k ≡ p.marks → Runs o (R.framed true v) w (beside m k)
  runs-framed c m k h vs n a e =
      record {
        still = a ∙ r.still;
        there = rw n r.there;
        full = ap length vs ∙ framed-full c p.mixer ∙ r.full;
        marked = rw e r.marked;
        voice =
            ap (λ (l : List Voice). get_or l 0 (silent_voice 0)) vs
            ∙ framed_at p.mixer c 0 r.there (omega (arith, r.full))
            ∙ ap (λ (b : Bool). R.framed b (voice_at p.mixer 0)) (lt-ltb 0 c h)
            ∙ ap (R.framed true) r.voice
            ∙ rate-framed o v;
        rule = λ g. rw e (r.rule (framed-heard v g));
      }

  -- settling leaves it
  pub runs-settled : Runs o v w (settled p)
  unfolding settled
  runs-settled =
      let a = settling-alike p r.full r.marked in
      record {
        still = r.still;
        there = r.there;
        full = r.full;
        marked = a.marks.long ∙ r.marked;
        voice = r.voice;
        rule =
            λ g.
            rule-alike a 0 (a.marks.long ∙ r.marked) (omega arith) (heard-voice p.mixer.voices 0 ∙ runs-heard ∙ g)
            ∙ r.rule g;
      }

-- ---- a frame, after whose advance it runs
module _ {o v : Voice} {w : Bool} (p : Present) (r : Runs o v w (advanced_state p)) where
  pub gives-sample : gives_at 0 p ≡ sample_by w (ticked_voice v)
  gives-sample = runs-sample (advanced_state p) r

  pub gives-pair : gives_pair 0 p ≡ pair_by w (ticked_voice v)
  gives-pair = runs-pair (advanced_state p) r

  some : 1 ≤ sampled_count (enveloped (advanced_state p).mixer)
  unfolding enveloped
  some = rw r.still r.there

  pub mono-runs : Runs o (R.framed true v) w (mono_next p)
  unfolding mono_frame_by enveloped sampled
  mono-runs = runs-framed (advanced_state p) r (sampled_count (enveloped (advanced_state p).mixer)) _ _ some refl refl refl refl

  pub duty-runs : Runs o (R.framed true v) w (duty_next p)
  unfolding duty_frame_by mono_frame_by enveloped sampled
  duty-runs = runs-framed (advanced_state p) r (sampled_count (enveloped (advanced_state p).mixer)) _ _ some refl refl refl refl

  pub stereo-runs : Runs o (R.framed true v) w (stereo_next p)
  unfolding stereo_frame_by enveloped sampled
  stereo-runs = runs-framed (advanced_state p) r (advanced_state p).mixer.n _ _ r.there refl refl refl refl

-- a state in which it runs, it runs after the advance of
pub still-runs : {o v : Voice} {w : Bool} (p : Present) → Runs o v w p → Runs o v w (advanced_state p)
still-runs p r = rw (runs-still p r) r

-- ---- the end of a fade that keeps sounding: voice 0 becomes voice 1
taken-first : (a : Adsr) (vs : List Voice) (s : Voice) → 2 ≤ length vs
    → let d = silent_voice 0 in get_or (set (set vs 0 (taken_over a (get_or vs 0 d) (get_or vs 1 d))) 1 s) 0 d ≡ taken_over a (get_or vs 0 d) (get_or vs 1 d)
taken-first a [] s h = absurd (omega arith)
taken-first a (v ∷ []) s h = absurd (omega arith)
taken-first a (v ∷ x ∷ vs) s h = refl

ended-rule : (ks : List Mark) (d : Mark) → 2 ≤ length ks → get_or (set ks 0 (get_or ks 1 nothing)) 0 d ≡ get_or ks 1 d
ended-rule [] d h = absurd (omega arith)
ended-rule (k ∷ []) d h = absurd (omega arith)
ended-rule (k ∷ l ∷ ks) d h = refl

pub ends-runs : (p : Present) → Sized p.mixer → length p.marks.voices ≡ 16 → p.mixer.crossfade_active ≡ true → next_t p.mixer ≡ 255 → p.marks.sounds_on ≡ true
    → Runs (voice_at p.mixer 0) (voice_at p.mixer 1) (rule_at p.marks 1) (advanced_state p)
unfolding advanced_by marks_advanced fade_ended_with envelope_after
ends-runs p h g a t on =
    let m = p.mixer in
    let two = h.fade a in
    let e : eqb (next_t m) 255 ≡ true = eq-eqb (next_t m) 255 t in
    rw (a, e, on)
    (record {
      still = refl;
      there = omega arith;
      full = simp length-set h.full;
      marked = simp length-set g;
      voice = taken-first (voice_at m 1).adsr m.voices (stopped_voice (voice_at m 1)) (omega (arith, h.full));
      rule = λ i. ap (λ (k : Mark). k.whole) (ended-rule p.marks.voices _ (omega (arith, g)));
    })
