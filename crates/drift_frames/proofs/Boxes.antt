-- How true a PolyBLEP voice in a box stays: its samples are those of the oscillator that started. Assumes nothing.
use Prim.Native.Nat.{ℕ, suc, ◌+◌, ◌<◌}
use native.Mathlib.Nat.{add-zero, zero-add}
use native.Mathlib.Omega.{arith}
use mathlib.Core.Path.{◌≡◌, refl, ap, ◌∙◌}
use mathlib.Core.Bool.{Bool, true, false, cond}
use mathlib.Core.List.{List, [], ◌∷◌}
use lib.ListN.{length, length-set}
use lib.Seq.{get_or-set_same}
use Rattle.drift.specs.Turns.{turn, turns}
use Rattle.drift.proofs.Drift.{pitch}
use Rattle.drift.proofs.Voices.{Enough, enough-less, enough-some, lasting, sounding, stepped}
use Rattle.frame.specs.Fades.{voice_at}
use Rattle.mixer.specs.declared.Mixer.{Mixer}
use Rattle.play.specs.Plays.{poly_bleped}
use Rattle.play.proofs.Laws.{first-there}
use Rattle.polyblep.specs.Oscillators as B
use Rattle.polyblep.specs.declared.PolyBlepOscillator.{PolyBlepOscillator}
use Rattle.polyblep.specs.declared.PolyBlepVoice.{PolyBlepVoice}
use Rattle.polyblep.specs.declared.PolyBlepWaveform.{PolyBlepWaveform}
use Rattle.start.specs.Starts.{poly_blep_voice, started_voice}
use Rattle.tone.specs.Duration.{duration_of, less_one}
use Rattle.voice.specs.Voices.{silent_voice, triggered_voice}
use Rattle.voice.specs.declared.Voice.{Voice}
use Rattle.voice.specs.declared.source.VoiceSource.TheVariants as S
use Rattle.drift_frames.specs.Calls.{Call, is_frame, called, called_all, frame_count, next_turn, turns_in}
use Rattle.drift_frames.specs.Boxes.{Startable, TrueBox}
use Rattle.drift_frames.proofs.Frames.{Ready, ready-frame, ready-setting}

-- the box some calls later, k samples after the start of o before them
record Later (o : PolyBlepOscillator) (k n before turned : ℕ) (m : Mixer) : Type 0 where
  left : ℕ
  ready : Ready m (sounding (B.later (k + n) o) left)
  counted : before + turned ≡ turns (k + n) o

turn_at : (m : Mixer) (b : PolyBlepVoice) → Ready m b → next_turn (voice_at m 0).source ≡ turn b.osc
turn_at m b h = ap next_turn h.source

turns-suc : (k : ℕ) (o : PolyBlepOscillator) → turns (suc k) o ≡ turns k o + turn (B.later k o)
unfolding turns
turns-suc k o = refl

module _ (o : PolyBlepOscillator) where
  more : (k n before t turned : ℕ) (m : Mixer) → Later o (suc k) n (before + t) turned m → Later o k (suc n) before (t + turned) m
  more k n before t turned m h =
      let e : suc k + n ≡ k + suc n = omega arith in
      record {
        left = h.left;
        ready = rw e at h.ready;
        counted = (let a : before + (t + turned) ≡ before + t + turned = omega arith in a) ∙ (rw e at h.counted);
      }

  abbrev Runs : List Call → Type 0
  Runs cs =
      (k left before : ℕ) (m : Mixer) → before ≡ turns k o → Ready m (sounding (B.later k o) left) → Enough (frame_count cs) left
      → Later o k (frame_count cs) before (turns_in cs m) (called_all cs m)

  by_kind : (c : Call) (cs : List Call) → Runs cs → (k left before : ℕ) (m : Mixer) → before ≡ turns k o → Ready m (sounding (B.later k o) left)
      → (f : Bool) → is_frame c ≡ f → Enough (cond f (suc (frame_count cs)) (frame_count cs)) left
      → Later o k (cond f (suc (frame_count cs)) (frame_count cs)) before (cond f (next_turn (voice_at m 0).source) 0 + turns_in cs (called c m)) (called_all cs (called c m))
  by_kind c cs rest k left before m e h true f l =
      let t = turn_at m (sounding (B.later k o) left) h in
      let r = rw (stepped k o left (enough-some (frame_count cs) left l)) at (ready-frame c m (sounding (B.later k o) left) f h refl) in
      let s : before + next_turn (voice_at m 0).source ≡ turns (suc k) o = rw (turns-suc k o, e, t) in
      more k (frame_count cs) before (next_turn (voice_at m 0).source) (turns_in cs (called c m)) (called_all cs (called c m))
      (rest (suc k) (less_one left) (before + next_turn (voice_at m 0).source) (called c m) s r (enough-less (frame_count cs) left l))
  by_kind c cs rest k left before m e h false f l =
      let r = rest k left before (called c m) e (ready-setting c m (sounding (B.later k o) left) f h) l in
      record { left = r.left; ready = r.ready; counted = rw zero-add r.counted }

  run : (cs : List Call) → Runs cs
  unfolding frame_count turns_in called_all
  run [] k left before m e h l = record { left = left; ready = rw add-zero h; counted = rw (add-zero, add-zero) e }
  run (c ∷ cs) k left before m e h l = by_kind c cs (run cs) k left before m e h (is_frame c) refl l

-- ---- the start
start-source : (hz ms : ℕ) (w : PolyBlepWaveform) (rate : ℕ) → (poly_blep_voice hz ms w rate).source ≡ S.PolyBlep (sounding (B.new_oscillator hz rate w) (duration_of ms rate))
unfolding poly_blep_voice started_voice triggered_voice B.started_voice
start-source hz ms w rate = refl

no-turns : (o : PolyBlepOscillator) → 0 ≡ turns 0 o
unfolding turns
no-turns o = refl

later-none : (o : PolyBlepOscillator) → B.later 0 o ≡ o
unfolding B.later
later-none o = refl

module _ (hz ms : ℕ) (w : PolyBlepWaveform) (m : Mixer) (h : Startable hz ms m) where
  ready-start : Ready (poly_bleped m hz ms w) (sounding (B.new_oscillator hz m.config.sample_rate_hz w) (duration_of ms m.config.sample_rate_hz))
  unfolding poly_bleped
  ready-start =
      let v = poly_blep_voice hz ms w m.config.sample_rate_hz in
      let there : 0 < length m.voices = omega (arith, h.box.full) in
      rw (first-there m v h.some)
      (record {
        some = h.some;
        there = rw length-set there;
        still = h.still;
        source = ap (λ (x : Voice). x.source) (get_or-set_same m.voices 0 v (silent_voice 0) there) ∙ start-source hz ms w m.config.sample_rate_hz;
      })

  pub true-box : TrueBox hz ms w m
  true-box =
      record {
        after = λ cs l.
            let rate = m.config.sample_rate_hz in
            let o = B.new_oscillator hz rate w in
            let e = run o cs 0 (duration_of ms rate) 0 (poly_bleped m hz ms w) (no-turns o) (rw (later-none o) ready-start) (lasting ms rate (frame_count cs) h.wide h.reach.most l) in
            let t : turns_in cs (poly_bleped m hz ms w) ≡ turns (frame_count cs) o = simp zero-add at e.counted in
            let p = pitch hz rate h.reach w in
            record {
              voice = sounding (B.later (frame_count cs) o) e.left;
              sounds = simp zero-add at e.ready.source;
              fraction = p.fraction (frame_count cs);
              limit = rw t (p.limit (frame_count cs));
              tighter = rw t (p.tighter (frame_count cs));
              mean = λ n. rw t (p.mean (frame_count cs) n);
            };
      }
