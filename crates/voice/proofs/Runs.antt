-- A voice, frame by frame: its source and its envelope, each by itself. Assumes nothing.
use Prim.Native.Nat.{ℕ, zero, suc}
use native.Mathlib.Omega.{arith}
use mathlib.Core.Path.{◌≡◌, refl, sym, ap, ◌∙◌}
use mathlib.Core.Bool.{Bool, true, false, cond, ◌||◌}
use mathlib.Core.List.{List, [], ◌∷◌}
use Rattle.laws.specs.Runs.{after, given}
use Rattle.envelope.specs.declared.Adsr.{Adsr}
use Rattle.envelope.specs.Adsrs as A
use Rattle.envelope.specs.Blocks.{level_after}
use Rattle.envelope.proofs.Ticks.{idle-ticks}
use Rattle.std.specs.Prelude.{ℤ, Option, Some, None}
use Rattle.fixed.specs.Fixed.{gained_by}
use Rattle.fixed.specs.Answers.{heard, Stops}
use Rattle.voice.specs.Sources.{active_source, stepped_source}
use Rattle.voice.specs.Voices.{Valid, sounding, audible, ticked_voice, stepped_voice, sample_by, shaped_by}
use Rattle.voice.specs.Blocks.{source_step, source_run, voice_step, voice_answer, voice_run, kept, sounded_source, rested_source, shaped_answers}
use Rattle.voice.specs.declared.source.VoiceSource.{VoiceSource}
use Rattle.voice.specs.declared.source.VoiceSource.TheVariants as S
use Rattle.voice.specs.declared.Voice.{Voice}
use Rattle.voice.proofs.Laws.{valid-ticked, valid-stepped, or-false}
use Rattle.voice.proofs.Requests.{source-quiet, step-quiet, quiet-after, quiet_same, run-suc, source-stops, idle-inactive}

-- ---- one frame
-- the idle source answers as an inactive one does
module _ (b : Bool) (s : VoiceSource) (h : b ≡ false → active_source s ≡ false) where
  kept-stepped : stepped_source (kept b s) ≡ record { voice = kept b (source_step s); given = (stepped_source s).given }
  unfolding source_step
  kept-stepped = go b h
    where
      go : (b : Bool) → (b ≡ false → active_source s ≡ false)
          → stepped_source (kept b s) ≡ record { voice = kept b (stepped_source s).voice; given = (stepped_source s).given }
      go true k = refl
      go false k = rw (source-quiet s (k refl)) (source-quiet S.Idle idle-inactive)

  kept_run : (n : ℕ) → source_run n (kept b (source_step s)) ≡ source_run n (source_step s)
  kept_run n = go b h
    where
      go : (b : Bool) → (b ≡ false → active_source s ≡ false) → source_run n (kept b (source_step s)) ≡ source_run n (source_step s)
      go true k = refl
      go false k = let q = k refl in rw (step-quiet s q) (quiet_same n S.Idle s idle-inactive q)

-- whether a voice can be heard at its next tick
abbrev loud : Voice → Bool
loud v = active_source v.source || A.active (A.ticked v.adsr)

loud-source : (v : Voice) → loud v ≡ false → active_source v.source ≡ false
loud-source v e = (or-false (active_source v.source) (A.active (A.ticked v.adsr)) e).0

pub tick-parts : (v : Voice) → ticked_voice v ≡ sounding v (kept (loud v) v.source) (A.ticked v.adsr)
unfolding ticked_voice audible
tick-parts v = go (loud v)
  where
    go : (b : Bool) → cond b (sounding v v.source (A.ticked v.adsr)) (sounding v S.Idle (A.ticked v.adsr))
        ≡ sounding v (kept b v.source) (A.ticked v.adsr)
    go true = refl
    go false = refl

pub ruleset ticks = (tick-parts)

pub frame-voice : (v : Voice) → voice_step v ≡ sounding v (kept (loud v) (source_step v.source)) (A.ticked v.adsr)
unfolding voice_step stepped_voice
frame-voice v = rw (tick-parts v, kept-stepped (loud v) v.source (loud-source v))

pub frame-answer : (whole : Bool) (v : Voice)
    → voice_answer whole v ≡ shaped_by (gained_by whole) (A.ticked v.adsr).level_q8 v.gain_q8 (stepped_source v.source).given ∷ []
unfolding voice_answer sample_by
frame-answer whole v = rw (tick-parts v, kept-stepped (loud v) v.source (loud-source v))

-- ---- frame by frame
kept-idle : (b : Bool) → kept b S.Idle ≡ S.Idle
kept-idle true = refl
kept-idle false = refl

ticks-silent : (n : ℕ) (a : Adsr) → A.active (A.ticked a) ≡ false → A.active (after A.ticked (suc n) a) ≡ false
unfolding after
ticks-silent n a e = rw (idle-ticks n e) e

-- a voice that cannot be heard at a tick has the idle source from then on
sounded-idle : (n : ℕ) (a : Adsr) → sounded_source n S.Idle a ≡ S.Idle
unfolding sounded_source
sounded-idle zero a = refl
sounded-idle (suc n) a =
    rw (quiet-after (suc n) S.Idle idle-inactive) (kept-idle (active_source (after source_step n S.Idle) || A.active (after A.ticked (suc n) a)))

rested-idle : (n : ℕ) (a : Adsr) → rested_source n S.Idle a ≡ S.Idle
unfolding rested_source
rested-idle zero a = refl
rested-idle (suc n) a = kept-idle (active_source S.Idle || A.active (after A.ticked (suc n) a))

module _ (n : ℕ) (s : VoiceSource) (a : Adsr) where
  sounded-silent : active_source s ≡ false → A.active (A.ticked a) ≡ false → sounded_source (suc n) s a ≡ S.Idle
  unfolding sounded_source
  sounded-silent q e = rw (quiet-after n s q, q, ticks-silent n a e)

  rested-silent : active_source s ≡ false → A.active (A.ticked a) ≡ false → rested_source (suc n) s a ≡ S.Idle
  unfolding rested_source
  rested-silent q e = rw (q, ticks-silent n a e)

sounded-next : (n : ℕ) (s : VoiceSource) (a : Adsr) (b : Bool) → (active_source s || A.active (A.ticked a)) ≡ b
    → sounded_source n (kept b (source_step s)) (A.ticked a) ≡ sounded_source (suc n) s a
unfolding sounded_source after
sounded-next zero s a b e = rw e
sounded-next (suc n) s a true e = refl
sounded-next (suc n) s a false e =
    let q = or-false (active_source s) (A.active (A.ticked a)) e in
    sounded-idle (suc n) (A.ticked a) ∙ sym (sounded-silent (suc n) s a q.0 q.1)

rested-next : (n : ℕ) (s : VoiceSource) (a : Adsr) (b : Bool) → (active_source s || A.active (A.ticked a)) ≡ b
    → rested_source n (kept b s) (A.ticked a) ≡ rested_source (suc n) s a
unfolding rested_source after
rested-next zero s a b e = rw e
rested-next (suc n) s a true e = refl
rested-next (suc n) s a false e =
    let q = or-false (active_source s) (A.active (A.ticked a)) e in
    rested-idle (suc n) (A.ticked a) ∙ sym (rested-silent (suc n) s a q.0 q.1)

-- n frames: the source and the envelope, each by itself
pub voice-after : (n : ℕ) (v : Voice) → after voice_step n v ≡ sounding v (sounded_source n v.source v.adsr) (after A.ticked n v.adsr)
unfolding after sounded_source
voice-after zero v = refl
voice-after (suc n) v =
    rw (frame-voice v)
    (voice-after n (sounding v (kept (loud v) (source_step v.source)) (A.ticked v.adsr))
    ∙ ap (λ (s : VoiceSource). sounding v s (after A.ticked n (A.ticked v.adsr))) (sounded-next n v.source v.adsr _ refl))

-- n ticks with no request
pub voice-ticks : (n : ℕ) (v : Voice) → after ticked_voice n v ≡ sounding v (rested_source n v.source v.adsr) (after A.ticked n v.adsr)
unfolding after rested_source
voice-ticks zero v = refl
voice-ticks (suc n) v =
    rw (tick-parts v)
    (voice-ticks n (sounding v (kept (loud v) v.source) (A.ticked v.adsr))
    ∙ ap (λ (s : VoiceSource). sounding v s (after A.ticked n (A.ticked v.adsr))) (rested-next n v.source v.adsr _ refl))

-- the answers of n frames: the source's, each shaped by the level that its tick left
pub voice-run : (whole : Bool) (n : ℕ) (v : Voice) → voice_run whole n v ≡ shaped_answers whole v.gain_q8 (source_run n v.source) (given A.ticked level_after n v.adsr)
unfolding given shaped_answers
voice-run whole zero v = refl
voice-run whole (suc n) v =
    let t = A.ticked v.adsr in
    let e = voice-run whole n (sounding v (kept (loud v) (source_step v.source)) t) ∙ ap (λ (gs : List (Option ℤ)). shaped_answers whole v.gain_q8 gs (given A.ticked level_after n t)) (kept_run (loud v) v.source (loud-source v) n) in
    rw (frame-answer whole v, frame-voice v, run-suc n v.source _ refl)
    (ap (λ (gs : List (Option ℤ)). shaped_by (gained_by whole) t.level_q8 v.gain_q8 (stepped_source v.source).given ∷ gs) e)

-- ---- shaped answers
pub none-shaped : (whole : Bool) (gain : ℕ) (gs : List (Option ℤ)) (ls : List ℕ) → heard gs ≡ [] → heard (shaped_answers whole gain gs ls) ≡ []
unfolding heard shaped_answers
none-shaped whole gain [] ls h = refl
none-shaped whole gain (g ∷ gs) [] h = refl
none-shaped whole gain (Some x ∷ gs) (l ∷ ls) h = absurd (let z : ◌≡◌ {A = ℕ} 0 1 = cc in omega arith)
none-shaped whole gain (None ∷ gs) (l ∷ ls) h = none-shaped whole gain gs ls h

stops-shaped : (whole : Bool) (gain : ℕ) (gs : List (Option ℤ)) (ls : List ℕ) → Stops gs → Stops (shaped_answers whole gain gs ls)
unfolding shaped_answers
stops-shaped whole gain [] ls h = tt
stops-shaped whole gain (g ∷ gs) [] h = tt
stops-shaped whole gain (Some x ∷ gs) (l ∷ ls) h = stops-shaped whole gain gs ls h
stops-shaped whole gain (None ∷ gs) (l ∷ ls) h = none-shaped whole gain gs ls h

-- a voice that gives none gives none from then on
pub voice-stops : (whole : Bool) (n : ℕ) (v : Voice) → Stops (voice_run whole n v)
voice-stops whole n v = rw (voice-run whole n v) (stops-shaped whole v.gain_q8 _ (given A.ticked level_after n v.adsr) (source-stops n v.source))

-- ---- valid
pub valid-frames : (n : ℕ) (v : Voice) → Valid v → Valid (after voice_step n v)
unfolding after voice_step
valid-frames zero v h = h
valid-frames (suc n) v h = valid-frames n _ (valid-stepped (valid-ticked h))

pub valid-ticks : (n : ℕ) (v : Voice) → Valid v → Valid (after ticked_voice n v)
unfolding after
valid-ticks zero v h = h
valid-ticks (suc n) v h = valid-ticks n _ (valid-ticked h)
