-- Each definition keeps a state valid. Assumes nothing.
use Prim.Native.Nat.{ℕ, ◌≤◌}
use native.Mathlib.Omega.{arith}
use mathlib.Core.Path.{◌≡◌, refl}
use mathlib.Core.Bool.{Bool, true, false, cond}
use lib.Dec.{eqb}
use lib.ListN.{set, length-set}
use lib.Seq.{drop-set-lt}
use Rattle.laws.specs.Lists.{map_first}
use Rattle.laws.proofs.Bools.{never}
use Rattle.laws.proofs.Lists.{all_set, all-map_first, length-map_first, drop-map_first}
use Rattle.mixer.specs.Mixers.{Valid, with_voices}
use Rattle.mixer.specs.declared.Mixer.{Mixer}
use Rattle.output.specs.Duty.{ValidMapper}
use Rattle.output.specs.declared.PwmMapper.{PwmMapper}
use Rattle.mixer.proofs.Laws.{valid-voice}
use Rattle.envelope.specs.Adsrs as A
use Rattle.envelope.specs.declared.Adsr.{Adsr}
use Rattle.voice.specs.Voices as S
use Rattle.voice.specs.declared.Voice.{Voice}
use Rattle.voice.proofs.Laws as L
use Rattle.frame.specs.Fades.{taken_over, voice_at, fade_ended_with, envelope_after, fade_ended_by, fade_at, next_t, advanced_by, advanced, marks_ended, marks_advanced}
use Rattle.frame.specs.Presents.{mono_next, duty_next, stereo_next}
use Rattle.frame.specs.Runs.{mono_step, duty_step, stereo_step}
use Rattle.marks.specs.Marks.{lifted}
use Rattle.marks.specs.declared.Marks.{Marks}
use Rattle.frame.specs.Frames.{enveloped, sampled, sampled_count, old_marks, with_mapper, mono_frame_by, stereo_frame_by}

-- the first k voices replaced by what f makes of them
pub valid-mapped : {m : Mixer} (f : Voice → Voice) → ((v : Voice) → S.Valid v → S.Valid (f v)) → (k : ℕ) → k ≤ m.n → Valid m → Valid (with_voices m (map_first f k m.voices))
valid-mapped {m} f keeps k l h =
    record {
      few = h.few;
      full = rw (length-map_first f k m.voices, h.full);
      each = all-map_first S.Valid f keeps k m.voices h.each;
      rest = rw (drop-map_first f k m.n m.voices l, h.rest);
      bank = h.bank;
      tuned = h.tuned;
      rate = h.rate;
      period = h.period;
      mapper = h.mapper;
      fade = h.fade;
    }

valid-taken : {a : Adsr} (old new : Voice) → A.Valid a → S.Valid old → S.Valid new → S.Valid (taken_over a old new)
unfolding taken_over
valid-taken old new e h k = record { rate = h.rate; source = k.source; adsr = e }

valid-after : (on : Bool) {old new : Voice} → S.Valid old → S.Valid new → A.Valid (envelope_after on old new)
unfolding envelope_after
valid-after true a b = b.adsr
valid-after false a b = (L.valid-stopped a).adsr

pub valid-ended : (on : Bool) {m : Mixer} → Valid m → 2 ≤ m.n → Valid (fade_ended_by on m)
unfolding fade_ended_with
valid-ended on {m} h k =
    let d = S.silent_voice 0 in
    let a = valid-voice 0 d h (omega arith) in
    let b = valid-voice 1 d h (omega arith) in
    let first = taken_over (envelope_after on (voice_at m 0) (voice_at m 1)) (voice_at m 0) (voice_at m 1) in
    let vs = set m.voices 0 first in
    record {
      few = h.few;
      full = rw (length-set, length-set, h.full);
      each =
          all_set S.Valid vs 1 (S.stopped_voice (voice_at m 1))
          (all_set S.Valid m.voices 0 first h.each (valid-taken (voice_at m 0) (voice_at m 1) (valid-after on a b) a b))
          (L.valid-stopped b);
      rest =
          rw (
            drop-set-lt m.n vs 1 (S.stopped_voice (voice_at m 1)) (omega arith),
            drop-set-lt m.n m.voices 0 first (omega arith),
            h.rest,
          );
      bank = h.bank;
      tuned = h.tuned;
      rate = h.rate;
      period = h.period;
      mapper = h.mapper;
      fade = λ e. never e;
    }

valid-at : {m : Mixer} (t : ℕ) → Valid m → Valid (fade_at m t)
unfolding fade_at
valid-at t h =
    record {
      few = h.few;
      full = h.full;
      each = h.each;
      rest = h.rest;
      bank = h.bank;
      tuned = h.tuned;
      rate = h.rate;
      period = h.period;
      mapper = h.mapper;
      fade = h.fade;
    }

pub valid-advanced : (on : Bool) {m : Mixer} → Valid m → Valid (advanced_by on m)
unfolding advanced_by
valid-advanced on {m} h = by-active m.crossfade_active refl
  where
    by_end : m.crossfade_active ≡ true → (e : Bool) → Valid (cond e (fade_ended_by on m) (fade_at m (next_t m)))
    by_end a true = valid-ended on h (h.fade a).0
    by_end a false = valid-at (next_t m) h

    by-active : (a : Bool) → m.crossfade_active ≡ a → Valid (cond a (cond (eqb (next_t m) 255) (fade_ended_by on m) (fade_at m (next_t m))) m)
    by-active true a = by_end a (eqb (next_t m) 255)
    by-active false a = h

pub valid-enveloped : {m : Mixer} → Valid m → Valid (enveloped m)
unfolding enveloped
valid-enveloped {m} h = valid-mapped S.ticked_voice (λ v k. L.valid-ticked {v = v} k) m.n (omega arith) h

pub valid-sampled : {m : Mixer} (k : ℕ) → k ≤ m.n → Valid m → Valid (sampled k m)
unfolding sampled
valid-sampled k l h = valid-mapped (λ v. (S.stepped_voice v).voice) (λ v g. L.valid-stepped {v = v} g) k l h

-- as many voices as are sampled are there
pub sampled-there : {m : Mixer} → Valid m → sampled_count m ≤ m.n
sampled-there {m} h = by-active m.crossfade_active refl
  where
    by-active : (a : Bool) → m.crossfade_active ≡ a → cond a 2 m.n ≤ m.n
    by-active true a = (h.fade a).0
    by-active false a = omega arith

-- both frames
pub valid-mono : (k : Marks) {m : Mixer} → Valid m → Valid (mono_frame_by k m).mixer
unfolding mono_frame_by
valid-mono k {m} h =
    let b = valid-enveloped (valid-advanced k.sounds_on h) in
    valid-sampled (sampled_count (enveloped (advanced_by k.sounds_on m))) (sampled-there b) b

-- a valid mapper put in
pub valid-mapper : {m : Mixer} (p : PwmMapper) → ValidMapper p → Valid m → Valid (with_mapper m p)
valid-mapper p v h =
    record {
      few = h.few;
      full = h.full;
      each = h.each;
      rest = h.rest;
      bank = h.bank;
      tuned = h.tuned;
      rate = h.rate;
      period = h.period;
      mapper = v;
      fade = h.fade;
    }

pub valid-stereo : (k : Marks) {m : Mixer} → Valid m → Valid (stereo_frame_by k m).mixer
unfolding stereo_frame_by
valid-stereo k {m} h =
    let b = valid-enveloped (valid-advanced k.sounds_on h) in
    valid-sampled (enveloped (advanced_by k.sounds_on m)).n (omega arith) b

-- ---- marks
-- document 01's stay as they are
pub marks-old : (m : Mixer) → marks_advanced m old_marks ≡ old_marks
unfolding marks_advanced
marks-old m = go m.crossfade_active (eqb (next_t m) 255)
  where
    go : (a e : Bool) → cond a (cond e (marks_ended old_marks) old_marks) old_marks ≡ old_marks
    go true true = refl
    go true false = refl
    go false e = refl

-- no frame's state hangs on what stands beside the voices, only on the fade's advance
pub mono-any : (k : Marks) (m : Mixer) → advanced_by k.sounds_on m ≡ advanced m → (mono_frame_by k m).mixer ≡ mono_step m
unfolding mono_frame_by
mono-any k m e = rw e

pub stereo-any : (k : Marks) (m : Mixer) → advanced_by k.sounds_on m ≡ advanced m → (stereo_frame_by k m).mixer ≡ stereo_step m
unfolding stereo_frame_by
stereo-any k m e = rw e

-- ---- the frames of a lifted state are document 01's
pub mono-lifted : (m : Mixer) → mono_next (lifted m) ≡ lifted (mono_step m)
mono-lifted m = rw (marks-old m)

pub duty-lifted : (m : Mixer) → duty_next (lifted m) ≡ lifted (duty_step m)
duty-lifted m = rw (marks-old m)

pub stereo-lifted : (m : Mixer) → stereo_next (lifted m) ≡ lifted (stereo_step m)
stereo-lifted m = rw (marks-old m)
