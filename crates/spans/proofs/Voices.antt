-- How long one voice surely remains audible. Assumes nothing.
use Prim.Native.Nat.{ℕ, suc, ◌+◌, ◌-◌, ◌≤◌, ◌<◌}
use native.Mathlib.Omega.{arith}
use borrow.Author.Tests.{lt-ltb, eqb-true}
use mathlib.Core.Path.{◌≡◌, refl, ap, ◌∙◌}
use mathlib.Core.Bool.{Bool, true, false, cond, or-true, ◌||◌}
use lib.Dec.{eqb, ltb}
use Rattle.envelope.specs.Adsrs as A
use Rattle.envelope.specs.declared.Adsr.{Adsr}
use Rattle.envelope.specs.declared.AdsrPhase.{AdsrPhase}
use Rattle.envelope.specs.declared.AdsrPhase.TheVariants as P
use Rattle.fm.specs.Fm.{stepped_fm}
use Rattle.laws.proofs.Bools.{never}
use Rattle.polyblep.specs.Oscillators as B
use Rattle.tone.specs.Duration.{forever, less_one}
use Rattle.tone.specs.Tones as T
use Rattle.voice.specs.Rests.{framed}
use Rattle.voice.specs.Sources.{active_source, stepped_source}
use Rattle.voice.specs.Voices.{audible, stepped_voice}
use Rattle.voice.specs.declared.Voice.{Voice}
use Rattle.voice.specs.declared.source.VoiceSource.{VoiceSource}
use Rattle.voice.specs.declared.source.VoiceSource.TheVariants as S
use Rattle.voice.proofs.Runs.{tick-parts}
use Rattle.spans.specs.Spans.{samples_last, source_lasts, lasts_in, voice_lasts}

-- ---- a source, one request on
abbrev Goes : ℕ → VoiceSource → Type 0
Goes b s = (active_source s ≡ true) × (b ≤ source_lasts s)

less-one : (left b : ℕ) → 1 ≤ b → suc b ≤ samples_last left → (eqb left 0 ≡ false) × (b ≤ samples_last (less_one left))
unfolding less_one
less-one left b h k = (not_last (eqb left 0) refl, on (eqb left forever))
  where
    not_last : (t : Bool) → eqb left 0 ≡ t → t ≡ false
    not_last true e = let z : left ≡ 0 = eqb-true _ _ e in absurd (omega arith)
    not_last false e = refl

    on : (t : Bool) → b ≤ samples_last (cond t forever (left - 1))
    on true = omega arith
    on false = omega arith

source-lasts : (s : VoiceSource) (b : ℕ) → 1 ≤ b → active_source s ≡ true → suc b ≤ source_lasts s → Goes b (stepped_source s).voice
unfolding active_source stepped_source T.stepped_tone B.stepped_voice stepped_fm
source-lasts S.Idle b h a k = never a
source-lasts (S.Tone v) b h a k = let l = less-one v.samples_left b h k in rw (a, l.0) (refl, l.1)
source-lasts (S.PolyBlep v) b h a k = let l = less-one v.samples_left b h k in rw (a, l.0) (refl, l.1)
source-lasts (S.Fm v) b h a k = rw a (refl, omega arith)

-- ---- an envelope, one tick on
-- in a phase that does not end a voice
abbrev going : AdsrPhase → Bool
going P.Attack = true
going P.Decay = true
going P.Sustain = true
going P.Release = false
going P.Idle = false

either : (Q : Adsr → Type 0) (t : Bool) (a b : Adsr) → Q a → Q b → Q (cond t a b)
either Q true a b h k = h
either Q false a b h k = k

abbrev On : Adsr → Type 0
On a = going a.phase ≡ true

on-decay : (a : Adsr) → On (A.began_decay a)
unfolding A.began_decay
on-decay a = either On (eqb (A.decay_length a) 0) _ _ refl refl

on_in : (p : AdsrPhase) (a : Adsr) → a.phase ≡ p → going p ≡ true → On (A.ticked_in p a)
unfolding A.advanced_toward
on_in P.Attack a e g = let b = A.advanced_toward 255 a in either On (ltb b.samples_in_phase b.phase_length_samples) b (A.began_decay b) (rw e) (on-decay b)
on_in P.Decay a e g =
    let b = A.advanced_toward a.spec.sustain_q8 a in either On (ltb b.samples_in_phase b.phase_length_samples) b (A.sustained b) (rw e) refl
on_in P.Sustain a e g = rw e
on_in P.Release a e g = never g
on_in P.Idle a e g = never g

on-ticked : (a : Adsr) → On a → On (A.ticked a)
unfolding A.ticked
on-ticked a g = on_in a.phase a refl g

-- a release that is not at its end
release-ticked : (a : Adsr) → a.phase ≡ P.Release → a.samples_in_phase + 1 < a.phase_length_samples → A.ticked a ≡ A.advanced_toward 0 a
unfolding A.ticked A.advanced_toward
release-ticked a e h = rw (e, lt-ltb (a.samples_in_phase + 1) a.phase_length_samples h)

idle-ticked : (a : Adsr) → a.phase ≡ P.Idle → A.ticked a ≡ a
unfolding A.ticked
idle-ticked a e = rw e

-- ---- a voice, one frame on
frame-adsr : (s : Bool) (v : Voice) → (framed s v).adsr ≡ A.ticked v.adsr
unfolding stepped_voice
frame-adsr true v = ap (λ (w : Voice). w.adsr) (tick-parts v)
frame-adsr false v = ap (λ (w : Voice). w.adsr) (tick-parts v)

-- of a voice whose source sounds
frame-source : (s : Bool) (v : Voice) → active_source v.source ≡ true → (framed s v).source ≡ cond s (stepped_source v.source).voice v.source
unfolding stepped_voice
frame-source true v a = ap (λ (w : Voice). (stepped_source w.source).voice) (tick-parts v) ∙ rw a
frame-source false v a = ap (λ (w : Voice). w.source) (tick-parts v) ∙ rw a

by-envelope : (v : Voice) → A.active v.adsr ≡ true → audible v ≡ true
unfolding audible
by-envelope v e = rw e (or-true (active_source v.source))

by-source : (v : Voice) → active_source v.source ≡ true → audible v ≡ true
unfolding audible
by-source v e = rw e

active_on : (p : AdsrPhase) → going p ≡ true → A.active_in p ≡ true
active_on P.Attack g = refl
active_on P.Decay g = refl
active_on P.Sustain g = refl
active_on P.Release g = never g
active_on P.Idle g = never g

lasts_on : (p : AdsrPhase) (a : Adsr) (s : VoiceSource) → going p ≡ true → lasts_in p a s ≡ forever
lasts_on P.Attack a s g = refl
lasts_on P.Decay a s g = refl
lasts_on P.Sustain a s g = refl
lasts_on P.Release a s g = never g
lasts_on P.Idle a s g = never g

pub lasts-by : (v : Voice) (p : AdsrPhase) → v.adsr.phase ≡ p → voice_lasts v ≡ lasts_in p v.adsr v.source
unfolding voice_lasts
lasts-by v p e = ap (λ (q : AdsrPhase). lasts_in q v.adsr v.source) e

-- on an idle envelope
pub idle-lasts : (v : Voice) (s : VoiceSource) → v.adsr.phase ≡ P.Idle → v.source ≡ s → voice_lasts v ≡ source_lasts s
idle-lasts v s e f = lasts-by v P.Idle e ∙ ap source_lasts f

source-sounds : (v : Voice) → v.adsr.phase ≡ P.Idle → audible v ≡ true → active_source v.source ≡ true
unfolding audible A.active
source-sounds v e u = quiet (active_source v.source) (rw e at u)
  where
    quiet : (t : Bool) → (t || false) ≡ true → t ≡ true
    quiet true z = refl
    quiet false z = never z

-- audible, and surely for b frames
abbrev pub Lasts : ℕ → Voice → Type 0
Lasts b v = (audible v ≡ true) × (b ≤ voice_lasts v)

module _ (s : Bool) (v : Voice) (b : ℕ) (h : 1 ≤ b) where
  after_on : going v.adsr.phase ≡ true → suc b ≤ voice_lasts v → Lasts b (framed s v)
  unfolding voice_lasts A.active
  after_on g k =
      let o : On (framed s v).adsr = rw (frame-adsr s v) (on-ticked v.adsr g) in
      let l = lasts_on v.adsr.phase v.adsr v.source g in (
        by-envelope (framed s v) (active_on (framed s v).adsr.phase o),
        rw (lasts_on (framed s v).adsr.phase (framed s v).adsr (framed s v).source o) (omega (arith, k, l)),
      )

  after-release : v.adsr.phase ≡ P.Release → suc b ≤ voice_lasts v → Lasts b (framed s v)
  unfolding voice_lasts A.active A.advanced_toward
  after-release e k =
      let l : suc b ≤ v.adsr.phase_length_samples - v.adsr.samples_in_phase = rw e at k in
      let a : (framed s v).adsr ≡ A.advanced_toward 0 v.adsr = frame-adsr s v ∙ release-ticked v.adsr e (omega arith) in
      (by-envelope (framed s v) (rw (a, e)), rw (a, e) (omega arith))

  after-idle : v.adsr.phase ≡ P.Idle → audible v ≡ true → suc b ≤ voice_lasts v → Lasts b (framed s v)
  after-idle e u k =
      let a : (framed s v).adsr ≡ v.adsr = frame-adsr s v ∙ idle-ticked v.adsr e in
      let q = idle-lasts (framed s v) (cond s (stepped_source v.source).voice v.source) (ap (λ (x : Adsr). x.phase) a ∙ e) (frame-source s v sounds) in
      (by-source (framed s v) (rw (frame-source s v sounds) (goes s).0), omega (arith, q, (goes s).1))
    where
      sounds : active_source v.source ≡ true
      sounds = source-sounds v e u

      goes : (t : Bool) → Goes b (cond t (stepped_source v.source).voice v.source)
      goes true = source-lasts v.source b h sounds (omega (arith, k, idle-lasts v v.source e refl))
      goes false = (sounds, omega (arith, k, idle-lasts v v.source e refl))

  pub framed-lasts : Lasts (suc b) v → Lasts b (framed s v)
  framed-lasts k = by-phase v.adsr.phase refl
    where
      by-phase : (p : AdsrPhase) → v.adsr.phase ≡ p → Lasts b (framed s v)
      by-phase P.Attack e = after_on (rw e) k.1
      by-phase P.Decay e = after_on (rw e) k.1
      by-phase P.Sustain e = after_on (rw e) k.1
      by-phase P.Release e = after-release e k.1
      by-phase P.Idle e = after-idle e k.0 k.1
