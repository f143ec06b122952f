-- Each definition keeps a source and a voice valid. Assumes nothing.
use mathlib.Core.Path.{◌≡◌, refl, sym}
use mathlib.Core.Bool.{Bool, true, false, cond, or-true, ◌||◌}
use Prim.Native.Nat.{ℕ, ◌≤◌}
use Rattle.envelope.specs.declared.Adsr.{Adsr}
use Rattle.envelope.specs.declared.AdsrSpec.{AdsrSpec}
use Rattle.envelope.specs.Adsrs as A
use Rattle.std.specs.Prelude.{Option, Some, None}
use Rattle.fixed.specs.Fixed.{gained, gained_by, pan_gains}
use Rattle.fixed.proofs.Laws.{gained-old}
use lib.IntN.{ℤ}
use Rattle.laws.proofs.Bools.{never}
use Rattle.envelope.proofs.Laws as E
use Rattle.polyblep.proofs.Laws as B
use Rattle.voice.specs.Sources.{active_source, ValidSource, ValidStep, stepped_source}
use Rattle.voice.specs.Voices.{Valid, sounding, silent_voice, triggered_voice, released_voice, stopped_voice, audible, ticked_voice, stepped_voice, shaped_by, sample_by, stereo_step, panned_by, pair_by}
use Rattle.voice.specs.declared.source.VoiceSource.{VoiceSource}
use Rattle.voice.specs.declared.source.VoiceSource.TheVariants as S
use Rattle.voice.specs.declared.Voice.{Voice}

pub valid-source-stepped : (s : VoiceSource) → ValidSource s → ValidStep (stepped_source s)
unfolding stepped_source
valid-source-stepped S.Idle h = tt
valid-source-stepped (S.Tone v) h = tt
valid-source-stepped (S.PolyBlep v) h = B.valid-stepped v h
valid-source-stepped (S.Fm v) h = tt

valid-click : {rate : ℕ} → rate ≤ 65537 → A.Valid (A.idle_adsr A.click_spec rate)
valid-click h = E.valid-idle h

pub valid-silent : {rate : ℕ} → rate ≤ 65537 → Valid (silent_voice rate)
unfolding silent_voice
valid-silent h = record { rate = h; source = tt; adsr = valid-click h }

pub valid-sounding : {v : Voice} {s : VoiceSource} {a : Adsr} → Valid v → ValidSource s → A.Valid a → Valid (sounding v s a)
valid-sounding h k l = record { rate = h.rate; source = k; adsr = l }

pub valid-triggered : {v : Voice} (spec : AdsrSpec) → Valid v → Valid (triggered_voice v spec)
unfolding triggered_voice
valid-triggered spec h = valid-sounding h h.source (E.valid-triggered (E.valid-idle h.rate))

pub valid-released : {v : Voice} → Valid v → Valid (released_voice v)
unfolding released_voice
valid-released h = valid-sounding h h.source (E.valid-released h.adsr)

pub valid-stopped : {v : Voice} → Valid v → Valid (stopped_voice v)
unfolding stopped_voice
valid-stopped h = valid-sounding h tt (valid-click h.rate)

pub valid-ticked : {v : Voice} → Valid v → Valid (ticked_voice v)
unfolding ticked_voice
valid-ticked {v} h = go (audible (sounding v v.source (A.ticked v.adsr)))
  where
    t : Valid (sounding v v.source (A.ticked v.adsr))
    t = valid-sounding h h.source (E.valid-ticked h.adsr)

    go : (b : Bool) → Valid (cond b (sounding v v.source (A.ticked v.adsr)) (sounding v S.Idle (A.ticked v.adsr)))
    go true = t
    go false = valid-sounding h tt t.adsr

pub valid-stepped : {v : Voice} → Valid v → Valid (stepped_voice v).voice
unfolding stepped_voice
valid-stepped {v} h = valid-sounding h (valid-source-stepped v.source h.source) h.adsr

-- the above, for attributes
pub ruleset keeps_valid = (valid-source-stepped, valid-triggered, valid-released, valid-stopped, valid-ticked, valid-stepped)

-- a voice whose envelope is triggered can be heard
pub triggered-audible : (v : Voice) (spec : AdsrSpec) → audible (triggered_voice v spec) ≡ true
unfolding triggered_voice audible
triggered-audible v spec = rw (E.triggered-active (A.idle_adsr spec v.sample_rate_hz)) (or-true (active_source v.source))

pub triggered-priority : (v : Voice) (spec : AdsrSpec) → (triggered_voice v spec).priority ≡ v.priority
unfolding triggered_voice
triggered-priority v spec = refl

-- ---- silence: what cannot be heard is not heard after a tick, and gives no sample
pub or-false : (a b : Bool) → (a || b) ≡ false → (a ≡ false) × (b ≡ false)
or-false true b e = never (sym e)
or-false false b e = (refl, e)

pub ticked-silent : (v : Voice) → audible v ≡ false → (audible (ticked_voice v) ≡ false) × ((ticked_voice v).source ≡ S.Idle)
unfolding ticked_voice audible active_source
ticked-silent v e =
    let h = or-false (active_source v.source) (A.active v.adsr) e in
    let t : A.ticked v.adsr ≡ v.adsr = E.ticked-inactive h.1 in
    rw (t, e) (h.1, refl)

pub stepped-idle : (v : Voice) → v.source ≡ S.Idle → ((stepped_voice v).given ≡ None) × ((stepped_voice v).voice ≡ v)
unfolding stepped_voice stepped_source
stepped-idle v e = (rw e, rw e)

-- ---- by a rule of gain 255
-- document 01's sample is by document 01's rule
pub sample-old : (v : Voice) → sample_by false v ≡ (stepped_voice v).given
unfolding sample_by stepped_voice
sample-old v = go (stepped_source v.source).given
  where
    go : (g : Option ℤ) → shaped_by (gained_by false) v.adsr.level_q8 v.gain_q8 g ≡ shaped_by gained v.adsr.level_q8 v.gain_q8 g
    go (Some s) = rw (gained-old s v.adsr.level_q8, gained-old (gained s v.adsr.level_q8) v.gain_q8)
    go None = refl

pub pair-old : (v : Voice) → pair_by false v ≡ (stereo_step v).given
unfolding pair_by stereo_step
pair-old v = rw (sample-old v) (go (stepped_voice v).given)
  where
    go : (g : Option ℤ) → panned_by (gained_by false) v.pan_q8 g ≡ panned_by gained v.pan_q8 g
    go (Some s) = rw (gained-old s (pan_gains v.pan_q8).left, gained-old s (pan_gains v.pan_q8).right)
    go None = refl

-- an idle voice gives none, whatever the rule
pub sample-idle : (whole : Bool) (v : Voice) → v.source ≡ S.Idle → sample_by whole v ≡ None
unfolding sample_by stepped_source
sample-idle whole v e = rw e

pub pair-idle : (whole : Bool) (v : Voice) → v.source ≡ S.Idle → pair_by whole v ≡ None
unfolding pair_by
pair-idle whole v e = rw (sample-idle whole v e)
