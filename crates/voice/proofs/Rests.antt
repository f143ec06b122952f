-- A voice whose tone has ended remains audible until stopped, or until its release has run out. Assumes nothing.
use mathlib.Core.Path.{◌≡◌, refl, ap, ◌∙◌}
use mathlib.Core.Bool.{Bool, true, false, or-true, ◌||◌}
use mathlib.Core.List.{List, [], ◌∷◌}
use lib.Dec.{ltb}
use lib.ListN.{length}
use Rattle.laws.specs.Runs.{after}
use Rattle.envelope.specs.declared.Adsr.{Adsr}
use Rattle.envelope.specs.declared.AdsrSpec.{AdsrSpec}
use Rattle.envelope.specs.Adsrs as A
use Rattle.envelope.proofs.Laws as E
use Rattle.envelope.proofs.Ticks.{idle-ticks}
use Rattle.envelope.proofs.Rests.{stays-active, click-rests, release-active, release_length_lem}
use Rattle.voice.specs.Sources.{active_source}
use Rattle.voice.specs.Voices.{audible, triggered_voice, ticked_voice, stepped_voice, stopped_voice, released_voice}
use Rattle.voice.specs.Blocks.{source_step, kept}
use Rattle.voice.specs.Rests.{framed, frames, later, Remains, ClickRests}
use Rattle.voice.specs.declared.source.VoiceSource.{VoiceSource}
use Rattle.voice.specs.declared.Voice.{Voice}
use Rattle.voice.proofs.Requests.{step-quiet, idle-inactive}
use Rattle.voice.proofs.Runs.{tick-parts}

-- ---- the envelope: each frame is a tick
frame-adsr : (s : Bool) (v : Voice) → (framed s v).adsr ≡ A.ticked v.adsr
unfolding stepped_voice
frame-adsr true v = ap (λ (w : Voice). w.adsr) (tick-parts v)
frame-adsr false v = ap (λ (w : Voice). w.adsr) (tick-parts v)

frames-adsr : (l : List Bool) (v : Voice) → (frames l v).adsr ≡ after A.ticked (length l) v.adsr
unfolding frames after
frames-adsr [] v = refl
frames-adsr (s ∷ l) v = frames-adsr l (framed s v) ∙ ap (λ (a : Adsr). after A.ticked (length l) a) (frame-adsr s v)

-- ---- the source: once it has ended it stays so
kept-quiet : (b : Bool) (s : VoiceSource) → active_source s ≡ false → active_source (kept b s) ≡ false
kept-quiet true s q = q
kept-quiet false s q = idle-inactive

ticked-quiet : (v : Voice) → active_source v.source ≡ false → active_source (ticked_voice v).source ≡ false
ticked-quiet v q = rw (tick-parts v) (kept-quiet (active_source v.source || A.active (A.ticked v.adsr)) v.source q)

frame-quiet : (s : Bool) (v : Voice) → active_source v.source ≡ false → active_source (framed s v).source ≡ false
unfolding stepped_voice source_step
frame-quiet true v q = ap active_source (step-quiet (ticked_voice v).source (ticked-quiet v q)) ∙ ticked-quiet v q
frame-quiet false v q = ticked-quiet v q

frames-quiet : (l : List Bool) (v : Voice) → active_source v.source ≡ false → active_source (frames l v).source ≡ false
unfolding frames
frames-quiet [] v q = q
frames-quiet (s ∷ l) v q = frames-quiet l (framed s v) (frame-quiet s v q)

-- then the envelope alone decides
frames-audible : (l : List Bool) (v : Voice) → active_source v.source ≡ false → audible (frames l v) ≡ A.active (after A.ticked (length l) v.adsr)
unfolding audible
frames-audible l v q = rw (frames-quiet l v q, frames-adsr l v)

-- ---- after a trigger
module _ (spec : AdsrSpec) (v : Voice) where
  begun : Adsr
  begun = A.idle_adsr spec v.sample_rate_hz

  later-adsr : (l : List Bool) → (later spec v l).adsr ≡ after A.ticked (length l) (A.triggered begun)
  unfolding triggered_voice begun
  later-adsr l = frames-adsr l (triggered_voice v spec)

  later-active : (l : List Bool) → A.active (later spec v l).adsr ≡ true
  later-active l = ap A.active (later-adsr l) ∙ stays-active (length l) begun

  later-audible : (l : List Bool) → audible (later spec v l) ≡ true
  unfolding audible
  later-audible l = rw (later-active l) (or-true (active_source (later spec v l).source))

  later-length : (l : List Bool) → A.release_length (later spec v l).adsr ≡ A.release_length begun
  later-length l = ap A.release_length (later-adsr l) ∙ release_length_lem (length l) begun

stopped-silent : (more : List Bool) (v : Voice) → audible (frames more (stopped_voice v)) ≡ false
unfolding stopped_voice
stopped-silent more v =
    let e = E.idle-inactive A.click_spec v.sample_rate_hz in
    frames-audible more (stopped_voice v) idle-inactive ∙ ap A.active (idle-ticks (length more) e) ∙ e

released-audible : (more : List Bool) (v : Voice) → active_source v.source ≡ false → A.active v.adsr ≡ true
    → audible (frames more (released_voice v)) ≡ ltb (length more) (A.release_length v.adsr)
unfolding released_voice
released-audible more v q h = frames-audible more (released_voice v) q ∙ release-active (length more) v.adsr h

pub remains : (spec : AdsrSpec) (v : Voice) → Remains spec v
unfolding begun
remains spec v =
    record {
      remains = later-audible spec v;
      stopped = λ l more. stopped-silent more (later spec v l);
      released = λ l more q. released-audible more (later spec v l) q (later-active spec v l) ∙ ap (ltb (length more)) (later-length spec v l);
    }

pub click-rests-in-sustain : (v : Voice) → ClickRests v
unfolding begun
click-rests-in-sustain v =
    record {
      rests = λ l h. rw (later-adsr A.click_spec v l) (click-rests (length l) v.sample_rate_hz h);
      audible = remains A.click_spec v;
    }
