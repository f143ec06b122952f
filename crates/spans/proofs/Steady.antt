-- All voices audible, and surely for so many frames. Assumes nothing.
use Prim.Native.Nat.{ℕ, zero, suc, ◌+◌, ◌-◌, ◌≤◌, ◌<◌, min, max}
use native.Mathlib.Nat.{zero-add, suc-add}
use native.Mathlib.Omega.{arith}
use mathlib.Core.Path.{◌≡◌, refl, ap, sym, ◌∙◌}
use mathlib.Core.Bool.{Bool, true, false, cond}
use mathlib.Core.List.{List, [], ◌∷◌}
use lib.ListN.{length, get_or, take, drop, drop_of_length-le}
use lib.Seq.{take-length, drop-cons}
use native.Mathlib.Numerals.{add-one}
use Rattle.config.specs.Config.{rounded_up}
use Rattle.entering.specs.Entering.{voice_free}
use Rattle.entering.proofs.Free.{all-audible, none_free}
use Rattle.envelope.specs.declared.AdsrPhase.{AdsrPhase}
use Rattle.envelope.specs.declared.AdsrPhase.TheVariants as P
use Rattle.frame.specs.Fades.{fade_at, next_t, advanced_by, advanced}
use Rattle.frame.specs.Frames.{enveloped, sampled, sampled_count, with_mapper, mono_frame_by, duty_frame_by, stereo_frame_by}
use Rattle.frame.specs.Lasting.{frames_left, SameFade, Box, frame, Lawful, after_all, unbroken}
use Rattle.frame.proofs.Fades.{mono-fade}
use Rattle.frame.proofs.Lasting.{Moves, valid-moves, same_left, left-none, left-most, lasts}
use Rattle.laws.specs.Lists.{All, map_first, only}
use Rattle.laws.specs.Runs.{after}
use Rattle.laws.proofs.Lists.{length-map_first, all-imp, all_take}
use Rattle.marks.specs.Marks as K
use Rattle.marks.specs.Marks.{no_marks, settled}
use Rattle.marks.specs.declared.Present.{Present}
use Rattle.mixer.specs.Mixers as M
use Rattle.mixer.specs.Mixers.{voices_of}
use Rattle.mixer.specs.declared.Mixer.{Mixer}
use Rattle.output.specs.declared.PwmMapper.{PwmMapper}
use Rattle.steps.specs.Steps.{Frame, mono, duty, stereo}
use Rattle.tone.specs.Duration.{forever}
use Rattle.voice.specs.Rests.{framed}
use Rattle.voice.specs.Voices as S
use Rattle.voice.specs.Voices.{audible, ticked_voice, stepped_voice}
use Rattle.voice.specs.declared.Voice.{Voice}
use Rattle.voice.specs.declared.source.VoiceSource.{VoiceSource}
use Rattle.voice.specs.declared.source.VoiceSource.TheVariants as T
use Rattle.spans.specs.Frames.{frame_step, mixed}
use Rattle.spans.specs.Spans.{source_lasts, lasts_in, voice_lasts, all_last, fade_lasts, steady_frames}
use Rattle.spans.proofs.Voices.{Lasts, framed-lasts}

pub record Steady (b : ℕ) (m : Mixer) : Type 0 where
  pub long : m.n ≤ length m.voices
  pub moves : Moves m
  pub each : All (Lasts b) (voices_of m)
  pub fade : m.crossfade_active ≡ true → b ≤ frames_left m

-- ---- the fade's advance
advance-same : (on : Bool) (m : Mixer) → SameFade (advanced_by on m) (advanced m)
unfolding mono_frame_by sampled enveloped
advance-same on m = let s = mono-fade (no_marks true on) m in record { active = s.active; t = s.t; step = s.step }

-- a state whose only calls are advances, of a fade that either call began
walk : Bool → Box Mixer (Unit {0}) (Unit {0})
walk on = record { mixer = λ m. m; framed = λ u m. advanced_by on m; called = λ u m. m; goes_on = λ u m. true }

module _ (on : Bool) (m : Mixer) (k : Moves m) where
  walks : Lawful (walk on)
  unfolding walk
  walks = record { advances = λ u e. advance-same on e; leaves = λ u e h. record { active = refl; t = refl; step = refl } }

  -- one frame fewer is left
  advanced-left : frames_left (advanced_by on m) ≡ frames_left m - 1
  unfolding walk after_all unbroken only
  advanced-left = (lasts (walk on) walks (frames_left m) m (frame tt ∷ []) k refl refl).left

  moves-on : 1 < frames_left m → advanced_by on m ≡ fade_at m (next_t m)
  unfolding walk after_all unbroken only
  moves-on h = (lasts (walk on) walks (frames_left m) m [] k refl refl).moves on h

  rests : frames_left m ≡ 0 → advanced_by on m ≡ m
  unfolding walk after_all unbroken only
  rests e = (lasts (walk on) walks (frames_left m) m [] k refl refl).rests on (omega arith)

  -- where it does not end, the voices stay
  record On : Type 0 where
    n : (advanced_by on m).n ≡ m.n
    voices : (advanced_by on m).voices ≡ m.voices
    active : (advanced_by on m).crossfade_active ≡ m.crossfade_active
    step : (advanced_by on m).crossfade_step_q8 ≡ m.crossfade_step_q8

  stays : (m.crossfade_active ≡ true → 1 < frames_left m) → On
  unfolding fade_at
  stays h = go m.crossfade_active refl
    where
      same : (x : Mixer) → advanced_by on m ≡ x → x.n ≡ m.n → x.voices ≡ m.voices → x.crossfade_active ≡ m.crossfade_active → x.crossfade_step_q8 ≡ m.crossfade_step_q8 → On
      same x e a b c d = record { n = rw e a; voices = rw e b; active = rw e c; step = rw e d }

      go : (t : Bool) → m.crossfade_active ≡ t → On
      go true e = same (fade_at m (next_t m)) (moves-on (h e)) refl refl refl refl
      go false e = same m (rests (left-none m e)) refl refl refl refl

-- ---- a frame
-- what holds of each voice before holds of each after
all-framed : (P Q : Voice → Type 0) → ((s : Bool) (v : Voice) → P v → Q (framed s v)) → (n k : ℕ) (vs : List Voice) → All P (take n vs)
    → All Q (take n (map_first (λ v. (stepped_voice v).voice) k (map_first ticked_voice n vs)))
all-framed P Q f zero k vs a = tt
all-framed P Q f (suc n) zero [] a = tt
all-framed P Q f (suc n) (suc k) [] a = tt
all-framed P Q f (suc n) zero (v ∷ vs) a = (f false v a.0, all-framed P Q f n zero vs a.1)
all-framed P Q f (suc n) (suc k) (v ∷ vs) a = (f true v a.0, all-framed P Q f n k vs a.1)

frame-left : (k : ℕ) (x : Mixer) → frames_left (sampled k (enveloped x)) ≡ frames_left x
unfolding sampled enveloped
frame-left k x = same_left (record { active = refl; t = refl; step = refl })

frame-steady : (on : Bool) (k b : ℕ) (m : Mixer) → 1 ≤ b → Steady (suc b) m → Steady b (sampled k (enveloped (advanced_by on m)))
unfolding sampled enveloped
frame-steady on k b m h s =
    let o = stays on m s.moves (λ e. omega (arith, s.fade e)) in
    let ticks = map_first ticked_voice (advanced_by on m).n (advanced_by on m).voices in
    record {
      long =
          let l = length-map_first (λ v. (stepped_voice v).voice) k ticks ∙ length-map_first ticked_voice (advanced_by on m).n (advanced_by on m).voices in
          let v = ap length o.voices in
          omega (arith, o.n, s.long);
      moves = λ e. rw o.step (s.moves (sym o.active ∙ e));
      each = rw (o.n, o.voices) (all-framed (Lasts (suc b)) (Lasts b) (λ t v. framed-lasts t v b h) m.n k m.voices s.each);
      fade = λ e. omega (arith, frame-left k (advanced_by on m), s.fade (sym o.active ∙ e), advanced-left on m s.moves);
    }

mapped-steady : {b : ℕ} {m : Mixer} (x : PwmMapper) → Steady b m → Steady b (with_mapper m x)
mapped-steady {b} {m} x s =
    let e : frames_left (with_mapper m x) ≡ frames_left m = same_left (record { active = refl; t = refl; step = refl }) in
    record { long = s.long; moves = s.moves; each = s.each; fade = λ a. omega (arith, s.fade a) }

-- a step that takes at most one off what is left
abbrev pub IsFrame : (Present → Present) → Type 0
IsFrame step = (p : Present) (b : ℕ) → 1 ≤ b → Steady (suc b) p.mixer → Steady b (step p).mixer

pub is-frame : (f : Frame) → IsFrame (frame_step f)
unfolding settled mono_frame_by duty_frame_by stereo_frame_by
is-frame mono p b h s = frame-steady p.marks.sounds_on (sampled_count (enveloped (advanced_by p.marks.sounds_on p.mixer))) b p.mixer h s
is-frame duty p b h s =
    mapped-steady (duty_frame_by p.marks p.mixer).mixer.mapper (frame-steady p.marks.sounds_on (sampled_count (enveloped (advanced_by p.marks.sounds_on p.mixer))) b p.mixer h s)
is-frame stereo p b h s = frame-steady p.marks.sounds_on (enveloped (advanced_by p.marks.sounds_on p.mixer)).n b p.mixer h s

-- ---- frames one after another
after-steady : (step : Present → Present) → IsFrame step → (k b : ℕ) (p : Present) → 1 ≤ b → Steady (k + b) p.mixer → Steady b (after step k p).mixer
unfolding after
after-steady step f zero b p h s = rw zero-add at s
after-steady step f (suc k) b p h s = after-steady step f k b (step p) h (f p (k + b) (omega arith) (rw suc-add at s))

mixed-steady : (fs : List Frame) (b : ℕ) (p : Present) → 1 ≤ b → Steady (length fs + b) p.mixer → Steady b (mixed fs p).mixer
mixed-steady [] b p h s = rw zero-add at s
mixed-steady (f ∷ fs) b p h s = mixed-steady fs b (frame_step f p) h (is-frame f p (length fs + b) (omega arith) (rw suc-add at s))

-- ---- from a state on
each-least : (b : ℕ) (vs : List Voice) → b ≤ all_last vs → All (λ v. b ≤ voice_lasts v) vs
unfolding all_last
each-least b [] h = tt
each-least b (v ∷ vs) h = (omega arith, each-least b vs (omega arith))

all_both : {A : Type 0} (P Q : A → Type 0) (l : List A) → All P l → All Q l → All (λ x. P x × Q x) l
all_both P Q [] a b = tt
all_both P Q (x ∷ l) a b = ((a.0, b.0), all_both P Q l a.1 b.1)

pub fade-left : (m : Mixer) → m.crossfade_active ≡ true → fade_lasts m ≡ frames_left m
fade-left m a = ap (λ (t : Bool). cond t (frames_left m) forever) a

start-steady : (p : Present) (b : ℕ) → K.Valid p → voice_free p ≡ false → b ≤ steady_frames p.mixer → Steady b p.mixer
unfolding steady_frames
start-steady p b h e k =
    let l : p.mixer.n ≤ length p.mixer.voices = omega (arith, h.inside.few, h.inside.full) in
    record {
      long = l;
      moves = valid-moves h.inside;
      each =
          all_both (λ v. audible v ≡ true) (λ v. b ≤ voice_lasts v) (voices_of p.mixer) (all-audible p l e)
          (each-least b (voices_of p.mixer) (omega arith));
      fade = λ a. omega (arith, fade-left p.mixer a);
    }

busy : {b : ℕ} (p : Present) → Steady b p.mixer → voice_free p ≡ false
busy {b} p s = none_free p s.long (all-imp (Lasts b) (λ v. audible v ≡ true) (λ v l. l.0) (voices_of p.mixer) s.each)

-- after fewer frames than that no voice has fallen free
pub still-busy : (step : Present → Present) → IsFrame step → (p : Present) → K.Valid p → voice_free p ≡ false → (j : ℕ) → j < steady_frames p.mixer
    → voice_free (after step j p) ≡ false
still-busy step f p h e j k = busy (after step j p) (after-steady step f j 1 p (omega arith) (start-steady p (j + 1) h e (omega arith)))

pub still-busy-mixed : (fs : List Frame) (p : Present) → K.Valid p → voice_free p ≡ false → length fs < steady_frames p.mixer → voice_free (mixed fs p) ≡ false
still-busy-mixed fs p h e k = busy (mixed fs p) (mixed-steady fs 1 p (omega arith) (start-steady p (length fs + 1) h e (omega arith)))

-- ---- at least one frame
voice-some : (v : Voice) → S.Valid v → 1 ≤ voice_lasts v
unfolding voice_lasts
voice-some v h = go v.adsr.phase refl
  where
    by-source : (s : VoiceSource) → 1 ≤ source_lasts s
    by-source T.Idle = omega arith
    by-source (T.Tone x) = omega arith
    by-source (T.PolyBlep x) = omega arith
    by-source (T.Fm x) = omega arith

    go : (p : AdsrPhase) → v.adsr.phase ≡ p → 1 ≤ lasts_in p v.adsr v.source
    go P.Attack e = omega arith
    go P.Decay e = omega arith
    go P.Sustain e = omega arith
    go P.Release e = let c = h.adsr.counts (rw e) in omega arith
    go P.Idle e = by-source v.source

all-some : (vs : List Voice) → All S.Valid vs → 1 ≤ all_last vs
unfolding all_last
all-some [] a = omega arith
all-some (v ∷ vs) a = omega (arith, voice-some v a.0, all-some vs a.1)

pub lasts-some : (m : Mixer) → M.Valid m → 1 ≤ steady_frames m
unfolding steady_frames frames_left
lasts-some m h =
    go m.crossfade_active
    (all-some (voices_of m) (all_take S.Valid m.n (length m.voices) m.voices (omega (arith, h.few, h.full)) (rw (take-length m.voices) h.each)))
  where
    go : (t : Bool) → 1 ≤ all_last (voices_of m)
        → 1 ≤ min (cond t (cond t (max 1 (rounded_up (255 - m.crossfade_t_q8) m.crossfade_step_q8)) 0) forever) (all_last (voices_of m))
    go true a = omega arith
    go false a = omega arith

-- ---- as the code finds it
pub fade-most : (m : Mixer) → M.Valid m → fade_lasts m ≤ forever
fade-most m h = go m.crossfade_active
  where
    go : (t : Bool) → cond t (frames_left m) forever ≤ forever
    go true = omega (arith, left-most m (valid-moves h))
    go false = omega arith

pub least_start : (m : Mixer) → min (fade_lasts m) (all_last (voices_of m)) ≡ steady_frames m
unfolding steady_frames
least_start m = refl

pub least-turn : (i least : ℕ) (vs : List Voice) (d : Voice) → i < length vs
    → min (min least (voice_lasts (get_or vs i d))) (all_last (drop (i + 1) vs)) ≡ min least (all_last (drop i vs))
unfolding all_last
least-turn i least vs d h = rw (add-one, drop-cons vs i d h) (omega arith)

pub least-end : (i least : ℕ) (vs : List Voice) → length vs ≤ i → least ≤ forever → least ≡ min least (all_last (drop i vs))
unfolding all_last
least-end i least vs l h = rw (drop_of_length-le vs l) (omega arith)
